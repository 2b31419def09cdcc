-- No two answers mean the same: document 01's number and values tell which answer was given. Each answer is read back from
-- them, and what can be read back is one. And what a call's own search answers means what the call then answers.
-- Assumes nothing.
use Prim.Native.Nat.{ℕ, ◌-◌}
use mathlib.Core.Path.{◌≡◌, refl, sym, ap, ◌∙◌}
use mathlib.Core.Bool.{false, cond}
use mathlib.Core.List.{List, [], ◌∷◌, map}
use lib.ListN.{length, get_or, take, drop}
use lib.Dec.{eqb}
use borrow.Author.Tests.{eq-eqb}
use Rattle.rules.specs.Words.{Table, spot_of}
use Rattle.rules.specs.Stores.{Store, clear_stores, redo_stores}
use Rattle.rules.specs.Calls.{placed_by, recover_of}
use Rattle.rules.specs.Results.{change_of, query_at}
use Rattle.rules.specs.Answers.{number_of, Meaning, change_means, query_means, chain_means, verdict_means, lookup_means, placing_means, finding_means}
use Rattle.rules.specs.Answers.{LookupTells, breaks, knows, misses}
use Rattle.rules.specs.Answers.{PlacingTells, FindingTells, stepped_means, stepped_from_means}
use Rattle.rules.specs.declared.Header.{Header}
use Rattle.rules.specs.declared.Slot.{Slot}
use Rattle.rules.specs.declared.Record.{Record}
use Rattle.rules.specs.declared.Spot.{Spot}
use Rattle.rules.specs.declared.Lookup.{Lookup}
use Rattle.rules.specs.declared.Lookup.TheVariants.{Stands, Absent}
use Rattle.rules.specs.declared.Placing.{Placing}
use Rattle.rules.specs.declared.Placing.TheVariants.{Free, Move, Nowhere}
use Rattle.rules.specs.declared.Finding.{Finding}
use Rattle.rules.specs.declared.Finding.TheVariants.{Sound, Doubled, Flagged, Neither}
use Rattle.rules.specs.declared.Refusal.{Refusal}
use Rattle.rules.specs.declared.Refusal.TheVariants.{BadHeader, ShortList, FlagSet, KeyPresent, KeyAbsent, NoPlace, AlreadyResizing, NotResizing}
use Rattle.rules.specs.declared.Refusal.TheVariants.{AtCapacity, InterimTaken, InterimEmpty, NoKind, BadCreation, BadMaking}
use Rattle.rules.specs.declared.Refusal.TheVariants.{ShortRecords, BadPosition, TooSmall}
use Rattle.rules.specs.Answers.{Change}
use Rattle.std.specs.Prelude.{Ok, Err}
use Rattle.rules.specs.declared.Stepped.{Stepped}
use Rattle.rules.specs.declared.SteppedFrom.{SteppedFrom}
use Rattle.rules.specs.Answers.{Query}
use Rattle.rules.specs.Answers.{Chain}
use Rattle.rules.specs.Answers.{Verdict}
use Rattle.rules.proofs.Basics.Lists.{never}

-- what can be read back is one
told : {A B : Type 0} (f : A → B) (back : B → A) → ((a : A) → back (f a) ≡ a) → (a b : A) → f a ≡ f b → a ≡ b
told f back h a b e = sym (h a) ∙ ap back e ∙ h b

-- ---- refusals

-- all of them, in the order of the table
abbrev pub refusals : List Refusal
refusals =
    BadHeader ∷ ShortList ∷ FlagSet ∷ KeyPresent ∷ KeyAbsent ∷ NoPlace ∷ AlreadyResizing ∷ NotResizing ∷ AtCapacity ∷ InterimTaken
    ∷ InterimEmpty ∷ NoKind ∷ BadCreation ∷ BadMaking ∷ ShortRecords ∷ BadPosition ∷ TooSmall ∷ []

pub numbers : map number_of refusals ≡ 1 ∷ 2 ∷ 3 ∷ 4 ∷ 5 ∷ 6 ∷ 7 ∷ 8 ∷ 9 ∷ 10 ∷ 11 ∷ 12 ∷ 13 ∷ 14 ∷ 15 ∷ 16 ∷ 17 ∷ []
numbers = refl

read_refusal : ℕ → Refusal
read_refusal n = get_or refusals (n - 1) BadHeader

refusal-back : (r : Refusal) → read_refusal (number_of r) ≡ r
unfolding read_refusal
refusal-back BadHeader = refl
refusal-back ShortList = refl
refusal-back FlagSet = refl
refusal-back KeyPresent = refl
refusal-back KeyAbsent = refl
refusal-back NoPlace = refl
refusal-back AlreadyResizing = refl
refusal-back NotResizing = refl
refusal-back AtCapacity = refl
refusal-back InterimTaken = refl
refusal-back InterimEmpty = refl
refusal-back NoKind = refl
refusal-back BadCreation = refl
refusal-back BadMaking = refl
refusal-back ShortRecords = refl
refusal-back BadPosition = refl
refusal-back TooSmall = refl

pub refusal-one : (r s : Refusal) → number_of r ≡ number_of s → r ≡ s
refusal-one r s e = told number_of read_refusal refusal-back r s e

-- "0 is success"
pub refusal-number : (r : Refusal) → eqb (number_of r) 0 ≡ false
refusal-number BadHeader = refl
refusal-number ShortList = refl
refusal-number FlagSet = refl
refusal-number KeyPresent = refl
refusal-number KeyAbsent = refl
refusal-number NoPlace = refl
refusal-number AlreadyResizing = refl
refusal-number NotResizing = refl
refusal-number AtCapacity = refl
refusal-number InterimTaken = refl
refusal-number InterimEmpty = refl
refusal-number NoKind = refl
refusal-number BadCreation = refl
refusal-number BadMaking = refl
refusal-number ShortRecords = refl
refusal-number BadPosition = refl
refusal-number TooSmall = refl

pub number_not_zero : (r : Refusal) → number_of r ≡ 0 → ⊥
number_not_zero r e = never (eq-eqb _ _ e) (refusal-number r)

-- ---- answers

pub value : Meaning → ℕ → ℕ
value m i = get_or m.values i 0

read_slot : List ℕ → Slot
read_slot l = record { level = get_or l 0 0; bucket = get_or l 1 0; slot = get_or l 2 0 }

by_number : {A : Type 0} → Meaning → A → (Refusal → A) → A
by_number m a refuse = cond (eqb m.number 0) a (refuse (read_refusal m.number))

read_change : Meaning → Change
read_change m = by_number m (Ok (value m 0)) Err

change-back : (a : Change) → read_change (change_means a) ≡ a
unfolding read_change by_number value
change-back (Ok n) = refl
change-back (Err r) = rw (refusal-number r, refusal-back r)

pub change-one : (a b : Change) → change_means a ≡ change_means b → a ≡ b
change-one a b e = told change_means read_change change-back a b e

read_query : Meaning → Query
read_query m =
    let r : Record = record { function = value m 0; place = value m 1 } in
    let x : Spot = record { word = value m 3; level = value m 4 } in
    by_number m (knows r x (value m 2)) (λ (e : Refusal). misses e (value m 2))

query-back : (a : Query) → read_query (query_means a) ≡ a
unfolding read_query by_number value
query-back (Ok x) = refl
query-back (Err x) = rw (refusal-number x.refusal, refusal-back x.refusal)

pub query-one : (a b : Query) → query_means a ≡ query_means b → a ≡ b
query-one a b e = told query_means read_query query-back a b e

read_chain : Meaning → Chain
read_chain m = by_number m (Ok (value m 0)) (λ (r : Refusal). breaks r (value m 0))

chain_back : (a : Chain) → read_chain (chain_means a) ≡ a
unfolding read_chain by_number value
chain_back (Ok n) = refl
chain_back (Err x) = rw (refusal-number x.refusal, refusal-back x.refusal)

pub chain_one : (a b : Chain) → chain_means a ≡ chain_means b → a ≡ b
chain_one a b e = told chain_means read_chain chain_back a b e

read_verdict : Meaning → Verdict
read_verdict m = by_number m (Ok tt) Err

verdict_back : (a : Verdict) → read_verdict (verdict_means a) ≡ a
unfolding read_verdict by_number
verdict_back (Ok tt) = refl
verdict_back (Err r) = rw (refusal-number r, refusal-back r)

pub verdict_one : (a b : Verdict) → verdict_means a ≡ verdict_means b → a ≡ b
verdict_one a b e = told verdict_means read_verdict verdict_back a b e

read_lookup : Meaning → Lookup
read_lookup m = by_number m (Stands (read_slot (drop 2 m.values)) (value m 0)) (λ (r : Refusal). Absent (value m 0))

lookup-back : (a : Lookup) → read_lookup (lookup_means a) ≡ a
unfolding read_lookup by_number value read_slot spot_of
lookup-back (Stands x n) = refl
lookup-back (Absent n) = refl

pub lookup-one : (a b : Lookup) → lookup_means a ≡ lookup_means b → a ≡ b
lookup-one a b e = told lookup_means read_lookup lookup-back a b e

-- a placing is told by its values alone: there are none, three or six
read_placing : List ℕ → Placing
read_placing l = cond (eqb (length l) 0) Nowhere (cond (eqb (length l) 3) (Free (read_slot l)) (Move (read_slot l) (read_slot (drop 3 l))))

placing-back : (a : Placing) → read_placing (placing_means a).values ≡ a
unfolding read_placing read_slot
placing-back (Free x) = refl
placing-back (Move from to) = refl
placing-back Nowhere = refl

pub placing-one : (a b : Placing) → placing_means a ≡ placing_means b → a ≡ b
placing-one a b e = told placing_means (λ (m : Meaning). read_placing m.values) placing-back a b e

-- a finding by its number of stores
read_finding : Meaning → Finding
read_finding m =
    let l = drop 1 m.values in
    by_number m (cond (eqb (value m 0) 0) Sound (cond (eqb (value m 0) 1) (Doubled (read_slot l) (read_slot (drop 3 l))) (Flagged (read_slot l))))
    (λ (r : Refusal). Neither)

finding-back : (a : Finding) → read_finding (finding_means a) ≡ a
unfolding read_finding by_number value read_slot
finding-back Sound = refl
finding-back (Doubled kept later) = refl
finding-back (Flagged x) = refl
finding-back Neither = refl

pub finding-one : (a b : Finding) → finding_means a ≡ finding_means b → a ≡ b
finding-one a b e = told finding_means read_finding finding-back a b e

read_stepped : Meaning → Stepped
read_stepped m = record { change = read_change m; placing = read_placing (drop 1 m.values) }

stepped_of : (c : Change) (p : Placing) → read_stepped (stepped_means (record { change = c; placing = p })) ≡ record { change = c; placing = p }
unfolding read_stepped stepped_means read_change by_number value
stepped_of (Ok n) p = rw (placing-back p)
stepped_of (Err r) p = rw (refusal-number r, refusal-back r, placing-back p)

stepped-back : (a : Stepped) → read_stepped (stepped_means a) ≡ a
stepped-back a = stepped_of a.change a.placing

pub stepped-one : (a b : Stepped) → stepped_means a ≡ stepped_means b → a ≡ b
stepped-one a b e = told stepped_means read_stepped stepped-back a b e

read_stepped_from : Meaning → SteppedFrom
read_stepped_from m = record { stepped = record { change = read_change m; placing = read_placing (drop 2 m.values) }; bucket = get_or m.values 1 0 }

stepped-from_of : (c : Change) (p : Placing) (n : ℕ) → let a : SteppedFrom = record { stepped = record { change = c; placing = p }; bucket = n } in
    read_stepped_from (stepped_from_means a) ≡ a
unfolding read_stepped_from stepped_from_means read_change by_number value
stepped-from_of (Ok s) p n = rw (placing-back p)
stepped-from_of (Err r) p n = rw (refusal-number r, refusal-back r, placing-back p)

pub stepped-from-one : (a b : SteppedFrom) → stepped_from_means a ≡ stepped_from_means b → a ≡ b
stepped-from-one a b e = told stepped_from_means read_stepped_from (λ x. stepped-from_of x.stepped.change x.stepped.placing x.bucket) a b e

-- ---- what the promise of a search tells: which answer it gave

pub lookup-tells : {a b : Lookup} → a ≡ b → LookupTells a b
lookup-tells e = record { same = ap lookup_means e }

pub lookup-told_by : {a b : Lookup} → LookupTells a b → a ≡ b
lookup-told_by {a} {b} e = lookup-one a b e.same

pub placing-tells : {a b : Placing} → a ≡ b → PlacingTells a b
placing-tells e = record { same = ap placing_means e }

pub placing-told_by : {a b : Placing} → PlacingTells a b → a ≡ b
placing-told_by {a} {b} e = placing-one a b e.same

pub finding-tells : {a b : Finding} → a ≡ b → FindingTells a b
finding-tells e = record { same = ap finding_means e }

pub finding-told_by : {a b : Finding} → FindingTells a b → a ≡ b
finding-told_by {a} {b} e = finding-one a b e.same

-- ---- what a call's own search answers means what the call answers by it

-- query's number, count, word and level are its lookup's
pub lookup-told : (t : Table) (o : Lookup)
    → ((query_means (query_at t o)).number ≡ (lookup_means o).number)
    × (drop 2 (query_means (query_at t o)).values ≡ take 3 (lookup_means o).values)
lookup-told t (Stands x n) = (refl, refl)
lookup-told t (Absent n) = (refl, refl)

pub placing-told : (p : Placing) (xs : List Store) → (change_means (change_of (placed_by p xs))).number ≡ (placing_means p).number
placing-told (Free x) xs = refl
placing-told (Move from to) xs = refl
placing-told Nowhere xs = refl

-- recovery's number of stores
pub finding-told : (t : Table) (h : Header) (f : Finding)
    → change_means (change_of (recover_of t h f)) ≡ record { number = (finding_means f).number; values = take 1 (finding_means f).values }
unfolding clear_stores redo_stores
finding-told t h Sound = refl
finding-told t h (Doubled kept later) = refl
finding-told t h (Flagged x) = refl
finding-told t h Neither = refl
