-- No second result meets the contract of a function of this crate.
-- Assumes nothing.
use mathlib.Core.Path.{sym, ◌∙◌}
use Rattle.laws.specs.Unique.{Unique, UniqueShown}
use Rattle.terms.proofs.letters.U8FromLetter.from.Reads as byte_of
use Rattle.terms.proofs.letters.U8FromLetter.from.Kinds as byte-ofK
use Rattle.terms.proofs.letters.letter_of.Reads as letter-of
use Rattle.terms.proofs.letters.letter_of.Kinds as letter-ofK
use Rattle.terms.proofs.letters.of_requests.Reads as of-requests
use Rattle.terms.proofs.letters.of_requests.Kinds as of-requestsK
use Rattle.terms.proofs.letters.of_histories.Reads as of-histories
use Rattle.terms.proofs.letters.of_histories.Kinds as of-historiesK
use Rattle.terms.proofs.letters.has_job.Reads as has-job
use Rattle.terms.proofs.letters.has_job.Kinds as has-jobK
use Rattle.terms.proofs.letters.has_cell.Reads as has-cell
use Rattle.terms.proofs.letters.has_cell.Kinds as has-cellK
use Rattle.terms.proofs.refusals.U8FromRefusal.from.Reads as number_of_lem
use Rattle.terms.proofs.refusals.U8FromRefusal.from.Kinds as number-ofK
use Rattle.terms.proofs.refusals.U8FromField.from.Reads as field-number
use Rattle.terms.proofs.refusals.U8FromField.from.Kinds as field-numberK
use Rattle.terms.proofs.refusals.field_of.Reads as field_of
use Rattle.terms.proofs.refusals.field_of.Kinds as field-ofK
use Rattle.terms.proofs.words.spelled.Reads as spelled
use Rattle.terms.proofs.words.spelled.Kinds as spelledK
use Rattle.terms.proofs.limits.all_limits.Reads as all-limits
use Rattle.terms.proofs.limits.all_limits.Kinds as all-limitsK

pub byte_of_unique : Unique byte-ofK.ps byte-ofK.r byte_of.Post
byte_of_unique κs a x y e f p q = p ∙ sym q

pub letter_of_unique : Unique letter-ofK.ps letter-ofK.r letter-of.Post
letter_of_unique κs a x y e f p q = p ∙ sym q

pub of_requests_unique : Unique of-requestsK.ps of-requestsK.r of-requests.Post
of_requests_unique κs a x y e f p q = p ∙ sym q

pub of_histories_unique : Unique of-historiesK.ps of-historiesK.r of-histories.Post
of_histories_unique κs a x y e f p q = p ∙ sym q

pub has_job_unique : Unique has-jobK.ps has-jobK.r has-job.Post
has_job_unique κs a x y e f p q = p ∙ sym q

pub has_cell_unique : Unique has-cellK.ps has-cellK.r has-cell.Post
has_cell_unique κs a x y e f p q = p ∙ sym q

pub number_of_unique : Unique number-ofK.ps number-ofK.r number_of_lem.Post
number_of_unique κs a x y e f p q = p ∙ sym q

pub field_number_unique : Unique field-numberK.ps field-numberK.r field-number.Post
field_number_unique κs a x y e f p q = p ∙ sym q

pub field_of_unique : Unique field-ofK.ps field-ofK.r field_of.Post
field_of_unique κs a x y e f p q = p ∙ sym q

pub spelled_unique : UniqueShown spelledK.ps spelledK.r spelled.Post (λ κs x. x.now)
spelled_unique κs a x y e f p q = p ∙ sym q

pub all_limits_unique : Unique all-limitsK.ps all-limitsK.r all-limits.Post
all_limits_unique κs a x y e f p q = p ∙ sym q
