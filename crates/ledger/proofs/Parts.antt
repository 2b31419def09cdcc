-- What is written for an input that comes in parts, and what the readings need to know of one.
-- Assumes nothing.
use Prim.Native.Nat.{ℕ}
use mathlib.Core.Path.{◌≡◌, refl, sym, ap, ◌∙◌}
use mathlib.Core.List.{List, [], ◌++◌}
use lib.Dec.{ltb}
use Rattle.running.specs.Runs.{together, Behind}
use Rattle.running.proofs.Inputs.{Takes, behind-none}
use Rattle.saying.specs.Writing.{Fronted}
use Rattle.saying.proofs.Puts.{front-text}
use Rattle.crediting.specs.Books.{figures_in, at_end, report_at, report_in, Turned}
use Rattle.crediting.specs.declared.Ledger.{Ledger}
use Rattle.posting.specs.Posts.{Post, begun, no_line, after_bytes, report_after, post_of}
use Rattle.posting.specs.declared.Posting.{Posting}
use Rattle.posting.proofs.Whole.{bytes_reported_as_lines, parts_are_posted, known_stays}
use Rattle.reporting.specs.Texts.{report_text}
use Rattle.reporting.specs.Promises.{Reported}
use Rattle.ledger.specs.Outputs.{output_to}
use Rattle.ledger.specs.Parts.{written_after, PartsWritten, KnownPartsWritten, known_in}

-- ---- all that is written

pub parts_written : PartsWritten
unfolding written_after output_to
parts_written room line parts long = ap report_text (bytes_reported_as_lines room line (together parts) long)

after_none : (x : Post) → after_bytes x [] ≡ x
unfolding after_bytes
after_none x = refl

pub known_parts_written : KnownPartsWritten
unfolding written_after output_to
known_parts_written room line parts later long k =
    let u = after_bytes (begun room line) (together parts) in
    let now = ap report_after (sym (after_none u)) ∙ known_stays u [] k in
    let then = ap report_after (parts_are_posted (begun room line) (together parts) later) ∙ known_stays u later k in
    ap report_text (now ∙ sym then ∙ bytes_reported_as_lines room line (together parts ++ later) long)

-- the report of a ledger at the end of the input stands at the front of the buffer
pub report_fronted : (p : Posting) (room : List ℕ) {l : Ledger} {left : List ℕ} → Turned (at_end (ltb 0 p.held)) p.ledger room l left
    → {out m : List ℕ} {n : ℕ} → Reported (report_at l.stage (figures_in l.counts)) out n m
    → Fronted m (written_after (post_of p room))
unfolding written_after report_after report_in
report_fronted p room {l} {left} d {m = m} r =
    let own : report_text (report_at l.stage (figures_in l.counts)) ≡ written_after (post_of p room) = ap (λ b. report_text (report_in b)) d.book in
    rw own at (front-text r.put)

-- ---- the parts

pub takes : Takes after_bytes
takes = record { none = after_none; more = parts_are_posted }

pub behind-first : (p : Posting) (room : List ℕ) → ((room : List ℕ) → post_of p room ≡ begun room no_line)
    → Behind after_bytes (begun room no_line) 0 (post_of p room)
behind-first p room e = rw (e room) (behind-none takes known_in (begun room no_line))
