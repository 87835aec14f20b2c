-- `lent::night::all_night` meets its contract, for any desk and any requests: it is safe and ends, and no request is left. The loop's measure is the requests that are left.
-- Assumes nothing.
use Rattle.lent.proofs.night.all_night.Given as goal

abbrev pub decreases-loop-requests : goal.decreases-loop-requests
decreases-loop-requests g l = g.R.Requests.left_of l.requests
