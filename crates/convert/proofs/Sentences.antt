-- The definitions of `Outputs` keep what `Sentences` says of the program.
-- Assumes nothing.
use Prim.Native.Nat.{ℕ, zero, suc, ◌+◌, ◌/◌, ◌%◌}
use mathlib.Core.Path.{◌≡◌, refl, sym, ap, ◌∙◌}
use mathlib.Core.Bool.{Bool, true, false, cond}
use mathlib.Core.List.{List, [], ◌∷◌, ◌++◌, map, flat_map, append-nil, append_assoc}
use mathlib.Core.Logic.{◌⊎◌, inl, inr}
use mathlib.Core.Option.{Option, none as absent, some}
use native.Mathlib.Omega.{arith}
use lib.ListN.{length, take, drop, replicate, length-replicate}
use lib.Dec.{eqb, leb, ltb}
use lib.Seq.{take_at}
use borrow.Author.Tests.{eqb-false}
use Rattle.rules.specs.Choice.{all}
use Rattle.rules.specs.Words.{Table, words_for, header_of}
use Rattle.rules.specs.Answers.{Meaning}
use Rattle.rules.specs.Results.{change_result, query_result, create_tests, created, create_result}
use Rattle.rules.specs.Conversions.{convert_result}
use Rattle.rules.specs.ConversionSentences.{Told}
use Rattle.rules.specs.declared.Header.{Header}
use Rattle.rules.specs.declared.Refusal.{Refusal}
use Rattle.rules.specs.declared.Refusal.TheVariants.{BadCreation}
use Rattle.rules.specs.declared.ScriptCall.{ScriptCall}
use Rattle.rules.specs.declared.ScriptCall.TheVariants.{Begin}
use Rattle.rules.specs.Answers.{Verdict}
use Rattle.std.specs.Prelude.{Ok, Err}
use Rattle.rules.specs.Answers.{Conversion}
use Rattle.rules.proofs.Calls.Conversions.{old_words_play_no_part, convert_keeps_the_map}
use Rattle.lines.specs.Lines.{line_of, name_text, bytes}
use Rattle.lines.specs.Texts.{digits_in, decimal_text, line_text as script_text}
use Rattle.lines.specs.declared.Line.{Line}
use Rattle.lines.specs.declared.Line.TheVariants.{Number}
use Rattle.lines.specs.declared.Name.{Name}
use Rattle.lines.specs.declared.Name.TheVariants.{Cap, Top, Mul1, Mul2}
use Rattle.lines.proofs.Texts.{texts_say}
use Rattle.following.specs.Scripts.{reading_of, ending_of}
use Rattle.following.specs.declared.Ending.{Ending}
use Rattle.following.specs.declared.Ending.TheVariants.{Whole, Bad as Torn, Over}
use Rattle.following.specs.Scripts.{Under}
use Rattle.std.specs.Prelude.{Some, None as no_cut}
use Rattle.following.specs.declared.Due.TheVariants.{Number as a_number, Event as an_event}
use Rattle.following.specs.declared.Script.{Script}
use Rattle.following.specs.declared.Asked.{Asked}
use Rattle.following.specs.declared.Asked.TheVariants.{Nothing as ask_nothing, Table as ask_table, Event as ask_event, Bad as ask_end}
use Rattle.replaying.specs.Events.{lent, call_of, queried, either, change_answer, answer_to}
use Rattle.replaying.specs.Replays.{begun, Turned, created as created_turn, too_large, table_of, asked_of, turn_of, finished, finish_of}
use Rattle.replaying.specs.Sentences.{GoesOn}
use Rattle.replaying.specs.declared.Answer.{Answer}
use Rattle.replaying.specs.declared.Answer.TheVariants.{Nothing, Created, Changed, Kept, Found, Events, Bad}
use Rattle.replaying.specs.declared.Replay.{Replay}
use Rattle.replaying.proofs.Enough.{room_is_enough, room_makes_all, larger_is_refused}
use Rattle.running.specs.Runs.{split, over_lines, with_ends, NoNewline, Lines, some_of}
use Rattle.running.proofs.Inputs.{true_false}
use Rattle.running.proofs.Splitting.{split-lines, lines_split}
use Rattle.saying.specs.Texts.{line_text, answer_lines}
use Rattle.convert.specs.Outputs.{back_to, ways_from, Report, bad_line, unmade, converted, with_answer, at_end, report_to, way_text, ways_text, report_text}
use Rattle.convert.specs.Outputs.{output_to}
use Rattle.convert.specs.Sentences.{Read, nothing, line, Begins, BadLinesEnd, BadEnd, RefusedTablesEnd, WholeScriptsConvert, NothingElseTold}
use Rattle.convert.specs.Sentences.{header_lines, Numbers, LargerCapsNotMade, CapsToSevenMade, RefusedWaysTold, BothWaysTold, WayToForm2}
use Rattle.rules.specs.declared.Unconverted.TheVariants.{Rejected, Stuck}

-- ---- lines that do not end a script

goes_on_lem : (a : Answer) → GoesOn a → (r : Report) → with_answer a r ≡ r
goes_on_lem (Bad n) g r = absurd (g.good n refl)
goes_on_lem (Created (Err e)) g r = absurd (g.made e refl)
goes_on_lem (Created (Ok tt)) g r = refl
goes_on_lem Nothing g r = refl
goes_on_lem (Changed x) g r = refl
goes_on_lem (Kept x n) g r = refl
goes_on_lem (Found q) g r = refl
goes_on_lem (Events n) g r = refl

abbrev told : List ℕ → Replay → List Line → Bool → Report
told = over_lines with_answer at_end

read-over : {room left : List ℕ} {p q : Replay} {ls : List (List ℕ)} → Read room p ls left q → (later : List (List ℕ)) (torn : Bool)
    → told room p (map line_of (ls ++ later)) torn ≡ told left q (map line_of later) torn
read-over nothing later torn = refl
read-over {room} {left} {p} (line {l = l} g r) later torn =
    goes_on_lem (turn_of room p (line_of l)).answer g _ ∙ read-over r later torn

lines_more : (ls : List (List ℕ)) (l : List ℕ) → Lines ls → NoNewline l → Lines (ls ++ (l ∷ []))
lines_more [] l a b = (b, tt)
lines_more (x ∷ ls) l a b = (a.0, lines_more ls l a.1 b)

module _ {room left : List ℕ} {ls : List (List ℕ)} {p : Replay} (d : Begins room ls left p) where
  -- what the input has behind the lines is told from there on
  line-next : (l : List ℕ) → NoNewline l → (later : List ℕ)
      → report_to room (with_ends (ls ++ (l ∷ [])) later) ≡ told left p (map line_of (l ∷ (split later).0)) (split later).1
  unfolding report_to
  line-next l none later =
      let all = split-lines (ls ++ (l ∷ [])) later (lines_more ls l d.lines none) in
      rw (all, append_assoc ls (l ∷ []) (split later).0) (read-over d.read (l ∷ (split later).0) (split later).1)

  -- and so is the end of the input
  end-next : (rest : List ℕ) → NoNewline rest → report_to room (with_ends ls rest) ≡ at_end left p (some_of rest)
  unfolding report_to
  end-next rest none =
      let none_left : map line_of (ls ++ []) ≡ map line_of ls = rw (append-nil ls) in
      rw (lines_split ls rest d.lines none, ← none_left) (read-over d.read [] (some_of rest))

pub bad_lines_end : BadLinesEnd
unfolding output_to
bad_lines_end room left ls p d l none n e later =
    let ends : told left p (map line_of (l ∷ (split later).0)) (split later).1 ≡ bad_line n = rw e in
    ap report_text (line-next d l none later ∙ ends)

pub bad_end : BadEnd
unfolding output_to
bad_end room left ls p d rest none n e = let ends : at_end left p (some_of rest) ≡ bad_line n = rw e in ap report_text (end-next d rest none ∙ ends)

pub whole_scripts_convert : WholeScriptsConvert
unfolding output_to
whole_scripts_convert room left ls p d n e =
    let ends : at_end left p false ≡ converted (ways_from (table_of p left)) = rw e in
    ap report_text (end-next d [] tt ∙ ends)

-- ---- a table that is not made is refused with 13

only_13 : (b : Bool) (t u : Table) (e : Refusal) → (cond {A = Verdict × Table} b (Ok tt, u) (Err BadCreation, t)).0 ≡ Err e → e ≡ BadCreation
only_13 true t u e k = cc
only_13 false t u e k = cc

module _ (room : List ℕ) (p : Replay) (next : Script) (e : Refusal) where
  made_13 : (c : ℕ) (v : Verdict) (t : Table) → (v ≡ Err e → e ≡ BadCreation)
      → (created_turn p next room c (v, t)).answer ≡ Created (Err e) → e ≡ BadCreation
  made_13 c (Ok tt) t f k = cc
  made_13 c (Err d) t f k = f cc

  event_13 : (q : ScriptCall) (under : Under) (t : Table) → answer_to t q under ≡ Created (Err e) → e ≡ BadCreation
  unfolding answer_to
  event_13 q under t k = go (queried q) under k
    where
      go : (o : Option ℕ) (c : Under) → either o (λ key. Found (query_result t key)) (change_answer c (change_result t lent (call_of q)).0)
          ≡ Created (Err e) → e ≡ BadCreation
      go (some key) c k = cc
      go absent no_cut k = cc
      go absent (Some cut) k = cc

  asked_13 : (a : Asked) → (asked_of room p next a).answer ≡ Created (Err e) → e ≡ BadCreation
  unfolding create_result
  asked_13 ask_nothing k = cc
  asked_13 (ask_end n) k = cc
  asked_13 (ask_event q under) k = event_13 q under (table_of p room) k
  asked_13 (ask_table c k mul1 mul2) a = go (leb c 8) a
    where
      fit : Table
      fit = take (words_for c) room

      go : (small : Bool) → (cond small (created_turn p next room c (create_result fit 1 c k mul1 mul2)) (too_large p next room)).answer
          ≡ Created (Err e) → e ≡ BadCreation
      go true k = made_13 c _ _ (only_13 (all (create_tests (length fit) 1 c _ mul1 mul2)) fit _ e) k
      go false k = cc

turn_13 : (room : List ℕ) (p : Replay) (l : Line) (e : Refusal) → (turn_of room p l).answer ≡ Created (Err e) → e ≡ BadCreation
unfolding turn_of
turn_13 room p l e k = let r = reading_of p.script l in asked_13 room p r.script e r.asked k

pub refused_tables_end : RefusedTablesEnd
unfolding output_to
refused_tables_end room left ls p d l none e k later =
    let ends : told left p (map line_of (l ∷ (split later).0)) (split later).1 ≡ unmade e = rw k in
    ap report_text (line-next d l none later ∙ ends ∙ ap unmade (turn_13 left p (line_of l) e k))

-- ---- nothing else is told

abbrev Kind : Report → Type 0
Kind r = ((n : ℕ) × (r ≡ bad_line n)) ⊎ (r ≡ unmade BadCreation) ⊎ ((t : Table) × (r ≡ converted (ways_from t)))

answer_kind : (a : Answer) → ((e : Refusal) → a ≡ Created (Err e) → e ≡ BadCreation) → {r : Report} → Kind r → Kind (with_answer a r)
answer_kind (Bad n) f k = inl (n, refl)
answer_kind (Created (Err e)) f k = inr (inl (ap unmade (f e refl)))
answer_kind (Created (Ok tt)) f k = k
answer_kind Nothing f k = k
answer_kind (Changed x) f k = k
answer_kind (Kept x n) f k = k
answer_kind (Found q) f k = k
answer_kind (Events n) f k = k

finish_13 : (p : Replay) (x : Ending) (e : Refusal) → finished p x ≡ Created (Err e) → e ≡ BadCreation
finish_13 p Whole e k = cc
finish_13 p (Torn n) e k = cc
finish_13 p Over e k = cc

told_kind : (ls : List Line) (room : List ℕ) (p : Replay) (torn : Bool) → Kind (told room p ls torn)
unfolding finish_of
told_kind [] room p torn = answer_kind (finish_of p torn) (finish_13 p (ending_of p.script torn)) (inr (inr (table_of p room, refl)))
told_kind (l ∷ ls) room p torn =
    let t = turn_of room p l in answer_kind t.answer (turn_13 room p l) (told_kind ls t.room t.replay torn)

pub nothing_else_told : NothingElseTold
unfolding output_to report_to
nothing_else_told room input = go (told_kind (map line_of (split input).0) room begun (split input).1)
  where
    go : {r : Report} → Kind r → ((n : ℕ) × (report_text r ≡ line_text ("bad", n))) ⊎ (report_text r ≡ line_text ("made", 13))
        ⊎ ((t : Table) × (report_text r ≡ ways_text t))
    go (inl (n, e)) = inl (n, ap report_text e)
    go (inr (inl e)) = inr (inl (ap report_text e))
    go (inr (inr (t, e))) = inr (inr (t, ap report_text e))

-- ---- the header

-- a decimal has no newline
digits_plain : (n v : ℕ) → NoNewline (digits_in n v)
unfolding digits_in
digits_plain zero v = tt
digits_plain (suc n) v = go (ltb v 10) (digits_plain n (v / 10))
  where
    one : NoNewline ((48 + v % 10) ∷ [])
    one = (λ e. omega (arith, e), tt)

    both : (xs : List ℕ) → NoNewline xs → NoNewline (xs ++ ((48 + v % 10) ∷ []))
    both [] a = one
    both (x ∷ xs) a = (a.0, both xs a.1)

    go : (b : Bool) → NoNewline (digits_in n (v / 10)) → NoNewline (cond b [] (digits_in n (v / 10)) ++ ((48 + v % 10) ∷ []))
    go true a = one
    go false a = both (digits_in n (v / 10)) a

plain_append : (xs ys : List ℕ) → NoNewline xs → NoNewline ys → NoNewline (xs ++ ys)
plain_append [] ys a b = b
plain_append (x ∷ xs) ys a b = (a.0, plain_append xs ys a.1 b)

-- and neither has a name, by a test that computes
newlines : List ℕ → Bool
newlines [] = false
newlines (x ∷ xs) = cond (eqb x 10) true (newlines xs)

plain_text : (xs : List ℕ) → newlines xs ≡ false → NoNewline xs
unfolding newlines
plain_text [] e = tt
plain_text (x ∷ xs) e = go (eqb x 10) refl e (plain_text xs)
  where
    go : (b : Bool) → eqb x 10 ≡ b → cond b true (newlines xs) ≡ false → (newlines xs ≡ false → NoNewline xs) → NoNewline (x ∷ xs)
    go true k e f = absurd (true_false e)
    go false k e f = (eqb-false x 10 k, f e)

number_plain : (name : Name) (v : ℕ) → newlines (bytes (name_text name)) ≡ false → NoNewline (script_text (Number name v))
unfolding decimal_text
number_plain name v e = plain_append (bytes (name_text name)) (digits_in (suc v) v) (plain_text (bytes (name_text name)) e) (digits_plain (suc v) v)

header_plain : (c k mul1 mul2 : ℕ) → Lines (header_lines c k mul1 mul2)
unfolding newlines
header_plain c k mul1 mul2 = (number_plain Cap c refl, (number_plain Top k refl, (number_plain Mul1 mul1 refl, (number_plain Mul2 mul2 refl, tt))))

module _ (room : List ℕ) (c k mul1 mul2 : ℕ) where
  -- where a replay stands before the fourth line, and its script behind it
  before : Replay
  before =
      record {
        script = record { due = a_number Mul2; event = Begin; first = c; second = k; third = mul1; cut = no_cut; lines = 3 };
        words = 0;
        events = 0;
      }

  behind : Script
  behind = record { due = an_event; event = Begin; first = 0; second = 0; third = 0; cut = no_cut; lines = 4 }

  table : Turned
  table = asked_of room before behind (ask_table c k mul1 mul2)

  header-told : Numbers c k mul1 mul2 → (later : List ℕ)
      → report_to room (with_ends (header_lines c k mul1 mul2) later)
      ≡ with_answer table.answer (told table.room table.replay (map line_of (split later).0) (split later).1)
  unfolding report_to turn_of reading_of table before behind
  header-told good later =
      rw (
        split-lines (header_lines c k mul1 mul2) later (header_plain c k mul1 mul2),
        texts_say (Number Cap c) good.0,
        texts_say (Number Top k) good.1,
        texts_say (Number Mul1 mul1) good.2,
        texts_say (Number Mul2 mul2) good.3,
      )

  created-long : length (created 1 c k mul1 mul2) ≡ words_for c
  unfolding created words_for
  created-long = simp length-replicate (omega arith)

  -- a table that is made is the one that is converted where no line comes behind it
  made_told : table.answer ≡ Created (Ok tt)
      → with_answer table.answer (told table.room table.replay [] false) ≡ converted (ways_from (created 1 c k mul1 mul2))
  unfolding table behind create_result finish_of ending_of
  made_told e = go (leb c 8) (all (create_tests (length fit) 1 c k mul1 mul2)) e
    where
      fit : Table
      fit = take (words_for c) room

      turn : Bool → Bool → Turned
      turn small good =
          cond small (created_turn before behind room c (cond good (Ok tt, created 1 c k mul1 mul2) (Err BadCreation, fit))) (too_large before behind room)

      go : (small good : Bool) → (turn small good).answer ≡ Created (Ok tt)
          → with_answer (turn small good).answer (told (turn small good).room (turn small good).replay [] false)
          ≡ converted (ways_from (created 1 c k mul1 mul2))
      go true true e = ap (λ (t : Table). converted (ways_from t)) (take_at (created 1 c k mul1 mul2) (drop (words_for c) room) (words_for c) created-long)
      go true false e = let z : ◌≡◌ {A = ℕ} 0 1 = cc in absurd (omega arith)
      go false good e = let z : ◌≡◌ {A = ℕ} 0 1 = cc in absurd (omega arith)

pub larger_caps_not_made : LargerCapsNotMade
unfolding output_to table
larger_caps_not_made room long c k mul1 mul2 good large later =
    let denied = larger_is_refused 7 room long (before room c k mul1 mul2) (behind room c k mul1 mul2) c k mul1 mul2 large in
    let t = table room c k mul1 mul2 in
    let ends : with_answer t.answer (told t.room t.replay (map line_of (split later).0) (split later).1) ≡ unmade BadCreation = rw denied in
    ap report_text (header-told room c k mul1 mul2 good later ∙ ends)

pub caps_to_seven_made : CapsToSevenMade
unfolding output_to table
caps_to_seven_made room long c k mul1 mul2 good small sound =
    let fits = room_is_enough 7 room (omega (arith, long)) in
    let done = room_makes_all 7 room (omega arith) fits (before room c k mul1 mul2) (behind room c k mul1 mul2) c k mul1 mul2 small sound in
    ap report_text (header-told room c k mul1 mul2 good [] ∙ made_told room c k mul1 mul2 done)

-- ---- the ways

-- the two lines of an answer
answer-lines : (a : Conversion) (number key : ℕ) → Told a number key → way_text a ≡ line_text ("answer", number) ++ line_text ("key", key)
unfolding flat_map
answer-lines a number key e =
    ap (λ (m : Meaning). flat_map line_text (answer_lines ("key" ∷ []) m.number m.values)) e ∙ rw append-nil

two_ways : (b : Conversion) (number key : ℕ) → Told b number key
    → flat_map way_text ((Ok tt) ∷ b ∷ []) ≡ line_text ("answer", 0) ++ line_text ("key", 0) ++ line_text ("answer", number) ++ line_text ("key", key)
unfolding flat_map
two_ways b number key e =
    let back = append-nil (way_text b) ∙ answer-lines b number key e in
    ap (λ (l : List ℕ). way_text (Ok tt) ++ l) back ∙ ap (λ (l : List ℕ). l ++ (line_text ("answer", number) ++ line_text ("key", key)))
    (answer-lines (Ok tt) 0 0 refl)
    ∙ sym (append_assoc (line_text ("answer", 0) ++ line_text ("key", 0)) (line_text ("answer", number)) (line_text ("key", key)))

module _ (t : Table) where
  zeros : Table
  zeros = replicate (length t) 0

  zeros-long : length zeros ≡ length t
  unfolding zeros
  zeros-long = length-replicate (length t) 0

  ways_by : {a : Conversion} {u : Table} → convert_result t zeros ≡ (a, u) → ways_text t ≡ flat_map way_text (a ∷ back_to t (a, u))
  unfolding ways_from zeros
  ways_by e = ap (λ (r : Conversion × Table). flat_map way_text (r.0 ∷ back_to t r)) e

pub refused_ways_told : RefusedWaysTold
unfolding flat_map
refused_ways_told t s long number key e other =
    let r = convert_result t (zeros t) in
    let same = (old_words_play_no_part t s (zeros t) (long ∙ sym (zeros-long t))).0 in
    go r.0 r.1 refl (rw same at e)
  where
    go : (a : Conversion) (u : Table) → convert_result t (zeros t) ≡ (a, u) → Told a number key
        → ways_text t ≡ line_text ("answer", number) ++ line_text ("key", key)
    go (Ok tt) u k e = absurd (other (sym (ap (λ (m : Meaning). m.number) e)))
    go (Err (Stuck x)) u k e = ways_by t k ∙ append-nil (way_text (Err (Stuck x))) ∙ answer-lines (Err (Stuck x)) number key e
    go (Err (Rejected x)) u k e = ways_by t k ∙ append-nil (way_text (Err (Rejected x))) ∙ answer-lines (Err (Rejected x)) number key e

pub both_ways_told : BothWaysTold
both_ways_told t s u r long e size number key told =
    let old = old_words_play_no_part t s (zeros t) (long ∙ sym (zeros-long t)) in
    let there : convert_result t (zeros t) ≡ (Ok tt, u) = sym (rw (← old.0, ← (old.1 converted), e)) in
    let back = (old_words_play_no_part u r t size).0 in
    ways_by t there ∙ two_ways (convert_result u t).0 number key (rw back at told)
  where
    converted : (x : Refusal) → (convert_result t s).0 ≡ Err (Rejected x) → ⊥
    converted x k = let z : ◌≡◌ {A = Conversion} (Ok tt) (Err (Rejected x)) = sym (ap (λ (p : Conversion × Table). p.0) e) ∙ k in
        let n : ◌≡◌ {A = ℕ} 0 1 = cc in omega arith

pub way_to_form2 : WayToForm2
unfolding header_of
way_to_form2 t s u one e = ap (λ (h : Header). h.form) (convert_keeps_the_map t s u e).header ∙ rw one
