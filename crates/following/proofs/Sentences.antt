-- The definitions of `Scripts` keep document 01's sentences, as `Sentences` says them.
-- Assumes nothing.
use Rattle.std.proofs.Common.{◌≡◌, ℕ, ◌+◌, ◌%◌, ◌^◌, ◌≤◌, Bool, true, false, cond, eqb, List, [], ◌∷◌, ◌++◌, length, get_or, drop, None as no_cut, sym, refl, ap, ◌∙◌, subst, arith, drop_of_length-le, eqb-true}
use Rattle.rules.specs.declared.ScriptCall.{ScriptCall}
use Rattle.rules.specs.declared.ScriptCall.TheVariants.{Query, Insert, Update, Delete, Begin, Shrink, Back, Step, End, Recover}
use Rattle.lines.specs.Lines.{blank}
use Rattle.lines.specs.declared.Name.{Name}
use Rattle.lines.specs.declared.Name.TheVariants.{Cap, Top, Mul1, Mul2, Key, Fn, At, After}
use Rattle.lines.specs.declared.Line.{Line}
use Rattle.lines.specs.declared.Line.TheVariants.{Number, Event, Cut, Bad}
use Rattle.following.specs.declared.Due.{Due}
use Rattle.following.specs.declared.Due.TheVariants.{Number as a_number, Event as an_event, Nothing as no_more}
use Rattle.following.specs.declared.Script.{Script}
use Rattle.following.specs.declared.Asked.{Asked}
use Rattle.following.specs.declared.Asked.TheVariants.{Nothing as ask_nothing, Table as ask_table, Event as ask_event, Bad as ask_end}
use Rattle.following.specs.declared.Reading.{Reading}
use Rattle.following.specs.declared.Ending.TheVariants.{Bad as Torn}
use Rattle.following.specs.Scripts.{Under, cut_after, start, next_line, onward, waits, stops_at, stops, numbers_in, number_read, name_number, event_begun, may_be_cut}
use Rattle.following.specs.Scripts.{expected, reading_of, ended_at, ending_of}
use Rattle.following.specs.Sentences.{header_names, names_of, names_after, numbered, event_lines, call_lines, cut_lines, Changing, asking, read_all}
use Rattle.following.specs.Sentences.{line_from, EventDue, Asks, BadAfter, EndsBad, NotNamed, NoEvent, NoChange, HeaderRead, EventsRead}
use Rattle.following.specs.Sentences.{CallsNamed, CutEventsRead, CutLineElseBad, HeaderInOrder, NumbersInOrder, CutNumbersInOrder, EventElseBad}
use Rattle.following.specs.Sentences.{StopsForGood}

-- ---- a line in place of a number

read_name : ℕ → Name
read_name n = get_or (Cap ∷ Top ∷ Mul1 ∷ Mul2 ∷ Key ∷ Fn ∷ At ∷ After ∷ []) n Cap

name_back : (n : Name) → read_name (name_number n) ≡ n
unfolding read_name
name_back Cap = refl
name_back Top = refl
name_back Mul1 = refl
name_back Mul2 = refl
name_back Key = refl
name_back Fn = refl
name_back At = refl
name_back After = refl

name-one : (m n : Name) → name_number m ≡ name_number n → m ≡ n
name-one m n e = sym (name_back m) ∙ ap read_name e ∙ name_back n

stray : (s : Script) (due : Name) (l : Line) → NotNamed due l → expected s (a_number due) l ≡ stops s
stray s due (Event q) h = refl
stray s due Cut h = refl
stray s due Bad h = refl
stray s due (Number n v) h = go (eqb (name_number due) (name_number n)) refl
  where
    go : (b : Bool) → eqb (name_number due) (name_number n) ≡ b → cond b (number_read s due v) (stops s) ≡ stops s
    go true e = absurd (h v (ap (λ (m : Name). Number m v) (sym (name-one due n (eqb-true _ _ e)))))
    go false e = refl

-- ---- lines after lines

asking_more : (a : Asked) (xs ys : List Asked) → asking a xs ++ ys ≡ asking a (xs ++ ys)
asking_more ask_nothing xs ys = refl
asking_more (ask_table c k mul1 mul2) xs ys = refl
asking_more (ask_event q under) xs ys = refl
asking_more (ask_end line) xs ys = refl

read_more : (s : Script) (xs ys : List Line) → read_all s (xs ++ ys) ≡ ((read_all (read_all s xs).0 ys).0, (read_all s xs).1 ++ (read_all (read_all s xs).0 ys).1)
read_more s [] ys = refl
read_more s (x ∷ xs) ys =
    let r = reading_of s x in
    let last = read_all (read_all r.script xs).0 ys in
    rw (read_more r.script xs ys, asking_more r.asked (read_all r.script xs).1 last.1)

-- ---- waiting for a number

-- after these lines nothing is asked yet, and a number of this name is due, in the line of this number
pub record Waits (s : Script) (lines : List Line) (name : Name) (number : ℕ) : Type 0 where
  pub nothing : (read_all s lines).1 ≡ []
  pub due : (read_all s lines).0.due ≡ a_number name
  pub next : next_line (read_all s lines).0 ≡ number

-- a line that makes a script stop is bad after the lines before it
bad_after : (s : Script) (lines : List Line) (l : Line) (number : ℕ) → (read_all s lines).1 ≡ []
    → (reading_of (read_all s lines).0 l).asked ≡ ask_end number
    → (reading_of (read_all s lines).0 l).script.due ≡ no_more
    → BadAfter s lines l number
bad_after s lines l number none bad over =
    let both = read_more s lines (l ∷ []) in
    record { alone = ap (λ (x : Script × List Asked). x.1) both ∙ rw (none, bad); over = ap (λ (x : Script × List Asked). x.0.due) both ∙ over }

module _ {s : Script} {lines : List Line} {name : Name} {number : ℕ} (w : Waits s lines name number) where
  here : Script
  here = (read_all s lines).0

  number_stray : (l : Line) → NotNamed name l → reading_of here l ≡ stops here
  unfolding reading_of here
  number_stray l h = rw w.due (stray here name l h)

  waits_bad : (l : Line) → NotNamed name l → BadAfter s lines l number
  unfolding here
  waits_bad l h =
      bad_after s lines l number w.nothing (ap (λ (r : Reading). r.asked) (number_stray l h)
      ∙ ap ask_end w.next) (ap (λ (r : Reading). r.script.due) (number_stray l h))

  waits-ends : EndsBad s lines number
  unfolding ending_of
  waits-ends torn = rw w.due (ap Torn w.next)

  waits_both : ((l : Line) → NotNamed name l → BadAfter s lines l number) × EndsBad s lines number
  waits_both = (waits_bad, waits-ends)

-- ---- the lines of a header and of an event

head_one : {a b : Name} {xs ys : List Name} → a ∷ xs ≡ b ∷ ys → a ≡ b
head_one {a} e = ap (λ (zs : List Name). get_or zs 0 a) e

no_name : (given : List Name) (vs : List ℕ) {name : Name} {later : List Name} → length given ≤ length vs
    → drop (length vs) given ≡ name ∷ later → ⊥
no_name given vs {name} {later} l e =
    let z : ◌≡◌ {A = ℕ} 0 (length (name ∷ later)) = ap length (sym (drop_of_length-le given {i = length vs} l) ∙ e) in omega (arith, z)

-- the first of the names that are left is due
waits_as : (s : Script) (lines : List Line) {name first : Name} {later others : List Name} {number : ℕ} → first ∷ others ≡ name ∷ later
    → (read_all s lines).1 ≡ [] → (read_all s lines).0.due ≡ a_number first → next_line (read_all s lines).0 ≡ number
    → Waits s lines name number
waits_as s lines e a b c = record { nothing = a; due = b ∙ ap a_number (head_one e); next = c }

header-waits : (vs : List ℕ) (name : Name) (later : List Name) → drop (length vs) header_names ≡ name ∷ later
    → Waits start (numbered header_names vs) name (length vs + 1)
unfolding reading_of
header-waits [] name later e = waits_as _ _ e refl refl refl
header-waits (a ∷ []) name later e = waits_as _ _ e refl refl refl
header-waits (a ∷ b ∷ []) name later e = waits_as _ _ e refl refl refl
header-waits (a ∷ b ∷ c ∷ []) name later e = waits_as _ _ e refl refl refl
header-waits (a ∷ b ∷ c ∷ d ∷ vs) name later e = absurd (no_name header_names (a ∷ b ∷ c ∷ d ∷ vs) (omega arith) e)

-- the event may begin: its op line is read as one
abbrev Begins : Script → ScriptCall → Type 0
Begins s q = reading_of s (Event q) ≡ event_begun s q

begins-free : (s : Script) → EventDue s → (q : ScriptCall) → Begins s q
unfolding reading_of
begins-free s d q = rw (d.due, d.cut)

begins-cut : (s : Script) (n line : ℕ) → s.due ≡ an_event → s.cut ≡ cut_after n line → (q : ScriptCall) → may_be_cut q ≡ true → Begins s q
unfolding reading_of
begins-cut s n line d c q may = rw (d, c, may)

cut-begins-free : (s : Script) → EventDue s → reading_of s Cut ≡ waits s (a_number After) 0 0 0
unfolding reading_of
cut-begins-free s d = rw d.due (rw d.cut)

-- lines after an op line
op_line : (s : Script) (o : Line) (r : Reading) → reading_of s o ≡ r → (lines : List Line)
    → read_all s (o ∷ lines) ≡ ((read_all r.script lines).0, asking r.asked (read_all r.script lines).1)
op_line s o r b lines = ap (λ (r : Reading). ((read_all r.script lines).0, asking r.asked (read_all r.script lines).1)) b

-- one that asks for nothing yet
module _ (s : Script) (o : Line) (t : Script) (b : reading_of s o ≡ record { script = t; asked = ask_nothing }) where
  first-line : (lines : List Line) → read_all s (o ∷ lines) ≡ read_all t lines
  first-line lines = op_line s o _ b lines

  begun-waits : {lines : List Line} {name : Name} {number : ℕ} → Waits t lines name number → Waits s (o ∷ lines) name number
  begun-waits {lines} w =
      let same = first-line lines in
      record { nothing = ap (λ x. x.1) same ∙ w.nothing; due = ap (λ x. x.0.due) same ∙ w.due; next = ap (λ x. next_line x.0) same ∙ w.next }

-- an event with a key, and one with a record besides
key_due : Script → ScriptCall → Script
key_due s q = (onward s (a_number Key) q 0 0 0 s.cut ask_nothing).script

module _ (s : Script) (q : ScriptCall) (b : Begins s q) (keyed : eqb (numbers_in q) 0 ≡ false) where
  op_waits : {lines : List Line} {name : Name} {number : ℕ} → Waits (key_due s q) lines name number → Waits s (Event q ∷ lines) name number
  unfolding key_due
  op_waits w = begun-waits s (Event q) (key_due s q) (b ∙ rw keyed) w

  key-waits : {name : Name} {later others : List Name} → Key ∷ others ≡ name ∷ later → Waits s (Event q ∷ []) name (line_from s 2)
  unfolding key_due
  key-waits e = op_waits (waits_as _ [] e refl refl (omega arith))

  module _ (more : eqb (numbers_in q) 1 ≡ false) (k : ℕ) where
    fn_waits : {name : Name} {later others : List Name} → Fn ∷ others ≡ name ∷ later → Waits s (Event q ∷ Number Key k ∷ []) name (line_from s 3)
    unfolding reading_of key_due
    fn_waits e = op_waits (waits_as _ (Number Key k ∷ []) e (rw more) (rw more) (rw more (omega arith)))

    at_waits : (f : ℕ) {name : Name} {later others : List Name} → At ∷ others ≡ name ∷ later
        → Waits s (Event q ∷ Number Key k ∷ Number Fn f ∷ []) name (line_from s 4)
    unfolding reading_of key_due
    at_waits f e = op_waits (waits_as _ (Number Key k ∷ Number Fn f ∷ []) e (rw more) (rw more) (rw more (omega arith)))

event_waits : (s : Script) (q : ScriptCall) → Begins s q → (vs : List ℕ) (name : Name) (later : List Name)
    → drop (length vs) (names_of q) ≡ name ∷ later
    → Waits s (event_lines (Event q) vs) name (line_from s (length vs + 2))
event_waits s (Insert key r) b [] name later e = key-waits s _ b refl e
event_waits s (Insert key r) b (k ∷ []) name later e = fn_waits s _ b refl refl k e
event_waits s (Insert key r) b (k ∷ f ∷ []) name later e = at_waits s _ b refl refl k f e
event_waits s (Insert key r) b (k ∷ f ∷ p ∷ vs) name later e = absurd (no_name (Key ∷ Fn ∷ At ∷ []) (k ∷ f ∷ p ∷ vs) (omega arith) e)
event_waits s (Update key r) b [] name later e = key-waits s _ b refl e
event_waits s (Update key r) b (k ∷ []) name later e = fn_waits s _ b refl refl k e
event_waits s (Update key r) b (k ∷ f ∷ []) name later e = at_waits s _ b refl refl k f e
event_waits s (Update key r) b (k ∷ f ∷ p ∷ vs) name later e = absurd (no_name (Key ∷ Fn ∷ At ∷ []) (k ∷ f ∷ p ∷ vs) (omega arith) e)
event_waits s (Delete key) b [] name later e = key-waits s _ b refl e
event_waits s (Delete key) b (k ∷ vs) name later e = absurd (no_name (Key ∷ []) (k ∷ vs) (omega arith) e)
event_waits s (Query key) b [] name later e = key-waits s _ b refl e
event_waits s (Query key) b (k ∷ vs) name later e = absurd (no_name (Key ∷ []) (k ∷ vs) (omega arith) e)
event_waits s Begin b vs name later e = absurd (no_name [] vs (omega arith) e)
event_waits s Shrink b vs name later e = absurd (no_name [] vs (omega arith) e)
event_waits s Back b vs name later e = absurd (no_name [] vs (omega arith) e)
event_waits s Step b vs name later e = absurd (no_name [] vs (omega arith) e)
event_waits s End b vs name later e = absurd (no_name [] vs (omega arith) e)
event_waits s Recover b vs name later e = absurd (no_name [] vs (omega arith) e)

-- the same of every line that begins something
line-waits : (s : Script) → EventDue s → (o : Line) (vs : List ℕ) (name : Name) (later : List Name) → drop (length vs) (names_after o) ≡ name ∷ later
    → Waits s (event_lines o vs) name (line_from s (length vs + 2))
line-waits s d (Event q) vs name later e = event_waits s q (begins-free s d q) vs name later e
line-waits s d Cut [] name later e = begun-waits s Cut _ (cut-begins-free s d) (waits_as _ [] e refl refl (omega arith))
line-waits s d Cut (n ∷ vs) name later e = absurd (no_name (After ∷ []) (n ∷ vs) (omega arith) e)
line-waits s d (Number m v) vs name later e = absurd (no_name [] vs (omega arith) e)
line-waits s d Bad vs name later e = absurd (no_name [] vs (omega arith) e)

-- ---- whole events

asks_by : (s : Script) (q : ScriptCall) → Begins s q → (lines : List Line) {asked : Asked}
    → let r = event_begun s q in let later = read_all r.script lines in
    (asking r.asked later.1 ≡ asked ∷ []) → EventDue later.0 → later.0.lines ≡ line_from s (length (Event q ∷ lines))
    → Asks s (Event q ∷ lines) asked
asks_by s q b lines alone next count =
    let whole = op_line s (Event q) _ b lines in
    record {
      alone = ap (λ x. x.1) whole ∙ alone;
      next = record { due = ap (λ x. x.0.due) whole ∙ next.due; cut = ap (λ x. x.0.cut) whole ∙ next.cut };
      count = ap (λ x. x.0.lines) whole ∙ count;
    }

due-here : (s : Script) → s.due ≡ an_event → s.cut ≡ no_cut → EventDue s
due-here s a b = record { due = a; cut = b }

call_asks : (s : Script) (q : ScriptCall) → Begins s (blank q) → Asks s (call_lines q) (ask_event q s.cut)
unfolding reading_of
call_asks s (Query k) b = asks_by s (Query 0) b _ refl (due-here _ refl refl) (omega arith)
call_asks s (Insert k r) b = asks_by s (blank (Insert k r)) b _ refl (due-here _ refl refl) (omega arith)
call_asks s (Update k r) b = asks_by s (blank (Update k r)) b _ refl (due-here _ refl refl) (omega arith)
call_asks s (Delete k) b = asks_by s (Delete 0) b _ refl (due-here _ refl refl) (omega arith)
call_asks s Begin b = asks_by s Begin b [] refl (due-here _ refl refl) (omega arith)
call_asks s Shrink b = asks_by s Shrink b [] refl (due-here _ refl refl) (omega arith)
call_asks s Back b = asks_by s Back b [] refl (due-here _ refl refl) (omega arith)
call_asks s Step b = asks_by s Step b [] refl (due-here _ refl refl) (omega arith)
call_asks s End b = asks_by s End b [] refl (due-here _ refl refl) (omega arith)
call_asks s Recover b = asks_by s Recover b [] refl (due-here _ refl refl) (omega arith)

-- ---- under a cut line

cut_may : (q : ScriptCall) → Changing q → (may_be_cut q ≡ true) × (may_be_cut (blank q) ≡ true)
cut_may (Query key) c = absurd c
cut_may (Insert key r) c = (refl, refl)
cut_may (Update key r) c = (refl, refl)
cut_may (Delete key) c = (refl, refl)
cut_may Begin c = (refl, refl)
cut_may Shrink c = (refl, refl)
cut_may Back c = (refl, refl)
cut_may Step c = (refl, refl)
cut_may End c = (refl, refl)
cut_may Recover c = (refl, refl)

under_cut : Script → ℕ → Script
under_cut s n = record { due = an_event; event = s.event; first = 0; second = 0; third = 0; cut = cut_after n (line_from s 1); lines = line_from s 2 }

cut-read : (s : Script) → EventDue s → (n : ℕ) → read_all s (cut_lines n) ≡ (under_cut s n, [])
unfolding reading_of under_cut
cut-read s d n =
    let same : line_from s 2 ≡ ((s.lines + 1) % 2 ^ 64 + 1) % 2 ^ 64 = omega arith in
    first-line s Cut _ (cut-begins-free s d) (Number After n ∷ []) ∙ rw same

cut-number : (s : Script) (n k : ℕ) → line_from (under_cut s n) (k + 2) ≡ line_from s (k + 4)
unfolding under_cut
cut-number s n k = omega arith

onto : (s t : Script) (xs : List Line) → read_all s xs ≡ (t, []) → (ys : List Line) → read_all s (xs ++ ys) ≡ read_all t ys
onto s t xs e ys = read_more s xs ys ∙ ap (λ (x : Script × List Asked). ((read_all x.0 ys).0, x.1 ++ (read_all x.0 ys).1)) e

module _ (s : Script) (d : EventDue s) (n : ℕ) where
  cut-begins : (q : ScriptCall) → may_be_cut q ≡ true → Begins (under_cut s n) q
  unfolding under_cut
  cut-begins q may = begins-cut (under_cut s n) n (line_from s 1) refl refl q may

  cut-waits : (lines : List Line) {name : Name} {number : ℕ} → Waits (under_cut s n) lines name number → Waits s (cut_lines n ++ lines) name number
  cut-waits lines w =
      let same = onto s (under_cut s n) (cut_lines n) (cut-read s d n) lines in
      record { nothing = ap (λ x. x.1) same ∙ w.nothing; due = ap (λ x. x.0.due) same ∙ w.due; next = ap (λ x. next_line x.0) same ∙ w.next }

  cut-asks : (q : ScriptCall) → Changing q → Asks s (cut_lines n ++ call_lines q) (ask_event q (cut_after n (line_from s 1)))
  unfolding under_cut
  cut-asks q changing =
      let same = onto s (under_cut s n) (cut_lines n) (cut-read s d n) (call_lines q) in
      let here = call_asks (under_cut s n) q (cut-begins (blank q) (cut_may q changing).1) in
      record {
        alone = ap (λ x. x.1) same ∙ here.alone;
        next = due-here _ (ap (λ x. x.0.due) same ∙ here.next.due) (ap (λ x. x.0.cut) same ∙ here.next.cut);
        count = ap (λ x. x.0.lines) same ∙ here.count ∙ omega arith;
      }

  no_change : (l : Line) → NoChange l → reading_of (under_cut s n) l ≡ stops_at (under_cut s n) (line_from s 1)
  unfolding reading_of under_cut
  no_change (Number m v) h = refl
  no_change Cut h = refl
  no_change Bad h = refl
  no_change (Event (Query key)) h = refl
  no_change (Event (Insert key r)) h = absurd (h (Insert key r) tt refl)
  no_change (Event (Update key r)) h = absurd (h (Update key r) tt refl)
  no_change (Event (Delete key)) h = absurd (h (Delete key) tt refl)
  no_change (Event Begin) h = absurd (h Begin tt refl)
  no_change (Event Shrink) h = absurd (h Shrink tt refl)
  no_change (Event Back) h = absurd (h Back tt refl)
  no_change (Event Step) h = absurd (h Step tt refl)
  no_change (Event End) h = absurd (h End tt refl)
  no_change (Event Recover) h = absurd (h Recover tt refl)

  cut_bad : (l : Line) → NoChange l → BadAfter s (cut_lines n) l (line_from s 1)
  cut_bad l h =
      let bad : reading_of (read_all s (cut_lines n)).0 l ≡ stops_at (under_cut s n) (line_from s 1) = ap (λ (x : Script
      × List Asked). reading_of x.0 l) (cut-read s d n) ∙ no_change l h in
      bad_after s (cut_lines n) l _ (ap (λ x. x.1) (cut-read s d n)) (ap (λ (r : Reading). r.asked) bad) (ap (λ (r : Reading). r.script.due) bad)

  cut-ends : EndsBad s (cut_lines n) (line_from s 1)
  unfolding ending_of under_cut
  cut-ends torn = ap (λ (x : Script × List Asked). ending_of x.0 torn) (cut-read s d n) ∙ go torn
    where
      go : (b : Bool) → ended_at (under_cut s n) an_event b ≡ Torn (line_from s 1)
      go true = refl
      go false = refl

-- ---- the sentences

pub header_read : HeaderRead
unfolding reading_of
header_read c k mul1 mul2 = record { alone = refl; next = due-here _ refl refl; count = refl }

pub events_read : EventsRead
events_read s d q = subst (λ (under : Under). Asks s (call_lines q) (ask_event q under)) d.cut (call_asks s q (begins-free s d (blank q)))

pub calls_named : CallsNamed
calls_named s d = (
  λ key f place. events_read s d (Insert key (record { function = f; place = place })),
  λ key f place. events_read s d (Update key (record { function = f; place = place })),
  λ key. events_read s d (Delete key),
  λ key. events_read s d (Query key),
)

pub cut_events_read : CutEventsRead
cut_events_read = cut-asks

pub cut_line_else_bad : CutLineElseBad
cut_line_else_bad s d n = (cut_bad s d n, cut-ends s d n)

pub header_in_order : HeaderInOrder
header_in_order vs name later e = waits_both (header-waits vs name later e)

pub numbers_in_order : NumbersInOrder
numbers_in_order s d o vs name later e = waits_both (line-waits s d o vs name later e)

pub cut_numbers_in_order : CutNumbersInOrder
cut_numbers_in_order s d n q changing vs name later e =
    let w = event_waits (under_cut s n) q (cut-begins s d n q (cut_may q changing).0) vs name later e in
    let number : line_from (under_cut s n) (length vs + 2) ≡ line_from s (length vs + 4) = cut-number s n (length vs) in
    waits_both (cut-waits s d n (event_lines (Event q) vs) (rw number at w))

pub event_else_bad : EventElseBad
unfolding reading_of ending_of
event_else_bad s d = (λ l h. bad_after s [] l _ refl (no_event_lem l h).0 (no_event_lem l h).1, rw (d.due, d.cut), rw (d.due, d.cut))
  where
    no_event_lem : (l : Line) → NoEvent l → ((reading_of s l).asked ≡ ask_end (line_from s 1)) × ((reading_of s l).script.due ≡ no_more)
    no_event_lem (Event q) h = absurd (h.0 q refl)
    no_event_lem Cut h = absurd (h.1 refl)
    no_event_lem (Number m v) h = (rw (d.due, d.cut), rw d.due)
    no_event_lem Bad h = (rw (d.due, d.cut), rw d.due)

pub stops_for_good : StopsForGood
unfolding reading_of ending_of
stops_for_good s d = (all, λ torn. rw d)
  where
    stay : (l : Line) → reading_of s l ≡ record { script = s; asked = ask_nothing }
    stay l = ap (λ (x : Due). expected s x l) d

    all : (ls : List Line) → read_all s ls ≡ (s, [])
    all [] = refl
    all (l ∷ ls) = ap (λ (r : Reading). ((read_all r.script ls).0, asking r.asked (read_all r.script ls).1)) (stay l) ∙ all ls
