-- Byte by byte or line by line: the report is the same.
-- Assumes nothing.
use Prim.Native.Nat.{ℕ}
use mathlib.Core.Path.{◌≡◌, refl, sym, ap, ◌∙◌}
use mathlib.Core.Bool.{Bool, true, false, cond}
use mathlib.Core.List.{List, [], ◌∷◌, ◌++◌, append-nil}
use lib.ListN.{take}
use lib.Dec.{eqb, ltb}
use Rattle.lines.specs.declared.Sample.{Sample}
use Rattle.lines.specs.declared.Sample.TheVariants.{Key, Bad as BadSample, Other}
use Rattle.lines.proofs.Samples.{sample_enough}
use Rattle.running.specs.Runs.{joined, split, line_room}
use Rattle.running.proofs.Lengths.{line_enough}
use Rattle.running.proofs.Whole.{prefixed, prefixed_joined, prefixed_nothing, Holds, holds_more, holds-nothing, held-some}
use Rattle.crediting.specs.Ledgers.{event_due}
use Rattle.crediting.specs.Books.{Book, script_line, sample_where, first_said, later_said, script_read, sample_read, line_at, with_line, report_behind, empty_book}
use Rattle.crediting.specs.declared.Stage.{Stage}
use Rattle.crediting.specs.declared.Stage.TheVariants.{Script, Samples, Unmade, Unrecovered, Bad}
use Rattle.crediting.proofs.Whole.{reports_are_one, known_behind}
use Rattle.posting.specs.Posts.{Post, line_ended, byte_held, after_byte, after_bytes, report_after, report_to, BytesReportedAsLines, PartsArePosted}
use Rattle.posting.specs.Posts.{KnownStays}

-- ---- the bytes that are held tell what the line says

script_enough : (line : List ℕ) (b : Book) → script_line (take line_room line) b ≡ script_line line b
unfolding script_line
script_enough line b = rw (line_enough line)

where_enough : (may : Bool) (line : List ℕ) → sample_where may (take line_room line) ≡ sample_where may line
where_enough true line = sample_enough line
where_enough false line = refl

said_enough : (s : Sample) (line : List ℕ) (b : Book) → first_said s (take line_room line) b ≡ first_said s line b
said_enough (Key key) line b = refl
said_enough BadSample line b = refl
said_enough Other line b = script_enough line b

stage_enough : (s : Stage) (line : List ℕ) (b : Book) → line_at s (take line_room line) b ≡ line_at s line b
unfolding script_read sample_read
stage_enough Script line b =
    let may = event_due b.replay.script in
    ap (λ (s : Sample). first_said s (take line_room line) b) (where_enough may line) ∙ said_enough (sample_where may line) line b
stage_enough Samples line b = ap (λ (s : Sample). later_said s b) (sample_enough line)
stage_enough (Unmade e) line b = refl
stage_enough (Unrecovered e) line b = refl
stage_enough (Bad n) line b = refl

with_enough : (line : List ℕ) (b : Book) → with_line (take line_room line) b ≡ with_line line b
unfolding with_line
with_enough line b = stage_enough b.stage line b

held-line : (read line : List ℕ) (held : ℕ) → Holds read line held → (b : Book) → with_line (take held line) b ≡ with_line read b
held-line read line held h b = ap (λ (l : List ℕ). with_line l b) h.bytes ∙ with_enough read b

-- ---- every byte in turn

posted_lines : (bs : List ℕ) (book : Book) (held : ℕ) (line read : List ℕ) → Holds read line held
    → report_after (after_bytes (record { book = book; line = line; held = held }) bs)
    ≡ report_behind book (prefixed read (split bs)).0 (prefixed read (split bs)).1
unfolding after_bytes report_after
posted_lines [] book held line read h = rw (held-some read line held h)
posted_lines (b ∷ bs) book held line read h =
    go (eqb b 10) (λ next. posted_lines bs next 0 line [] (holds-nothing line h.long))
    (posted_lines bs book _ _ (read ++ (b ∷ [])) (holds_more read line held b h))
  where
    x : Post
    x = record { book = book; line = line; held = held }

    lines : Bool → List (List ℕ) × Bool
    lines d = cond d ([] ∷ (split bs).0, (split bs).1) (joined b (split bs))

    go : (d : Bool)
        → ((next : Book)
        → report_after (after_bytes (record { book = next; line = line; held = 0 }) bs)
        ≡ report_behind next (prefixed [] (split bs)).0 (prefixed [] (split bs)).1)
        → report_after (after_bytes (byte_held x b) bs)
        ≡ report_behind book (prefixed (read ++ (b ∷ [])) (split bs)).0 (prefixed (read ++ (b ∷ [])) (split bs)).1
        → report_after (after_bytes (cond d (line_ended x) (byte_held x b)) bs) ≡ report_behind book (prefixed read (lines d)).0 (prefixed read (lines d)).1
    go true ended more =
        let next = with_line (take held line) book in
        let rest = rw (prefixed_nothing (split bs)) at (ended next) in
        let said : next ≡ with_line (read ++ []) book = held-line read line held h book
        ∙ ap (λ (l : List ℕ). with_line l book) (sym (append-nil read)) in
        rest ∙ ap (λ (k : Book). report_behind k (split bs).0 (split bs).1) said
    go false ended more = rw (prefixed_joined read b (split bs)) more

pub bytes_reported_as_lines : BytesReportedAsLines
unfolding report_to
bytes_reported_as_lines room line input long =
    let e = posted_lines input (empty_book room) 0 line [] (holds-nothing line long) in
    (rw (prefixed_nothing (split input)) at e) ∙ reports_are_one room (split input).0 (split input).1

-- ---- parts

pub parts_are_posted : PartsArePosted
unfolding after_bytes
parts_are_posted x [] later = refl
parts_are_posted x (b ∷ bs) later = parts_are_posted (after_byte x b) bs later

-- ---- where the report is known

some-lines : (bs : List ℕ) (book : Book) (line : List ℕ) (held : ℕ) → (ls : List (List ℕ)) × (torn : Bool)
    × (report_after (after_bytes (record { book = book; line = line; held = held }) bs) ≡ report_behind book ls torn)
unfolding after_bytes report_after
some-lines [] book line held = ([], ltb 0 held, refl)
some-lines (b ∷ bs) book line held = go (eqb b 10) (some-lines bs (with_line (take held line) book) line 0) (some-lines bs book _ _)
  where
    x : Post
    x = record { book = book; line = line; held = held }

    Known : Post → Book → Type 0
    Known y k = (ls : List (List ℕ)) × (torn : Bool) × (report_after (after_bytes y bs) ≡ report_behind k ls torn)

    go : (d : Bool) → Known (line_ended x) (with_line (take held line) book) → Known (byte_held x b) book
        → Known (cond d (line_ended x) (byte_held x b)) book
    go true (ls, torn, e) more = (take held line ∷ ls, torn, e)
    go false ended more = more

pub known_stays : KnownStays
known_stays x later k = let s = some-lines later x.book x.line x.held in s.2 ∙ known_behind x.book k s.0 s.1
