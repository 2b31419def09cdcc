-- What is written for an input that comes in parts, and how a part is taken.
-- Assumes nothing.
use Prim.Native.Nat.{ℕ, zero, suc, ◌+◌, ◌-◌, ◌^◌, ◌≤◌, ◌<◌}
use mathlib.Core.Path.{◌≡◌, refl, sym, ap, ◌∙◌}
use mathlib.Core.Bool.{Bool, true, false, cond}
use mathlib.Core.List.{List, [], ◌∷◌, ◌++◌, flat_map, append-nil, append_assoc}
use mathlib.Core.Logic.{⊎_elim, inl, inr}
use native.Mathlib.Numerals.{add-one}
use native.Mathlib.Omega.{arith}
use lib.ListN.{length, take, drop, get_or, length-drop}
use lib.Dec.{eqb, ltb}
use borrow.Author.Tests.{ltb-true, ltb-false, eqb-false}
use lib.Seq.{take-suc, take-add, take_all, length-take-le}
use denote.Enum.Declared.{tag_of}
use types.Run.{OneOf}
use Rattle.replaying.specs.declared.Answer.{Answer}
use Rattle.replaying.specs.Rooms.{RoomFor}
use Rattle.running.specs.Runs.{line_room, ready, byte_taken, TakenIs, known, end_of, fed, Stand, after_byte, after_bytes, answers_in, together, Behind}
use Rattle.running.specs.declared.Run.{Run}
use Rattle.running.specs.declared.Taken.{Taken}
use Rattle.running.proofs.Parts.{parts_are_fed, after_more, answers_more, behind-nothing, behind-part, known_is_all}
use Rattle.saying.specs.Texts.{text_of, text_bytes}
use Rattle.saying.specs.Writing.{Put}
use Rattle.saying.proofs.Puts.{put_length, put-text, front-text}
use Rattle.script.specs.Outputs.{output_to}
use Rattle.script.specs.Parts.{begun, text_in, pauses, texts, PartsWritten, KnownPartsWritten, TookSome, TookPart, WentOn}
use Rattle.script.specs.Parts.{ReadSome, Ran}
use Rattle.script.specs.declared.Took.{Took}
use Rattle.script.specs.declared.Turn.{Turn}
use Rattle.script.specs.declared.Outcome.{Outcome}
use Rattle.script.specs.declared.Outcome.TheVariants.{Going, Known, Ended, Unread, Unwritten}
use Rattle.script.specs.contracts.Outcome.{the_type}
use Rattle.script.proofs.Outputs.{bytes_written, spoken-text}

pub true_false : true ≡ false → ⊥
true_false e = let z : ◌≡◌ {A = ℕ} 1 0 = ap (λ (b : Bool). cond b 1 0) e in omega (arith, z)

-- ---- texts after texts

text_append : (xs ys : List Answer) → flat_map text_of (xs ++ ys) ≡ flat_map text_of xs ++ flat_map text_of ys
unfolding flat_map
text_append [] ys = refl
text_append (x ∷ xs) ys = rw (text_append xs ys, append_assoc (text_of x) (flat_map text_of xs) (flat_map text_of ys))

pub text_more : (s : Stand) (xs ys : List ℕ) → text_in s (xs ++ ys) ≡ text_in s xs ++ text_in (after_bytes s xs) ys
unfolding text_in
text_more s xs ys = ap (flat_map text_of) (answers_more s xs ys) ∙ text_append (answers_in s xs) (answers_in (after_bytes s xs) ys)

texts-together : (s : Stand) (parts : List (List ℕ)) → texts s parts ≡ text_in s (together parts)
unfolding text_in answers_in flat_map
texts-together s [] = refl
texts-together s (p ∷ ps) = ap (λ (later : List ℕ). text_in s p ++ later) (texts-together (after_bytes s p) ps) ∙ sym (text_more s p (together ps))

-- ---- all that is written

module _ (room line : List ℕ) (long : length line ≡ line_room) where
  s : Stand
  s = begun room line

  -- what the bytes after a part are answered
  later-text : Stand → List ℕ → List ℕ
  later-text u later = flat_map text_of (fed u.run u.room u.line later)

  fed-text : (part later : List ℕ) → text_in s part ++ later-text (after_bytes s part) later ≡ output_to room (part ++ later)
  unfolding s later-text text_in
  fed-text part later =
      let u = after_bytes s part in
      sym (text_append (answers_in s part) (fed u.run u.room u.line later))
      ∙ ap (flat_map text_of) (sym (parts_are_fed s part later))
      ∙ bytes_written room line (part ++ later) long

  ended : (parts : List (List ℕ)) → texts s parts ++ text_of (end_of (after_bytes s (together parts)).run) ≡ output_to room (together parts)
  unfolding later-text flat_map
  ended parts =
      let whole = fed-text (together parts) [] in
      ap (λ (x : List ℕ). x ++ text_of (end_of (after_bytes s (together parts)).run)) (texts-together s parts)
      ∙ rw (append-nil, append-nil) at whole

  over : (parts : List (List ℕ)) (later : List ℕ) → known (after_bytes s (together parts)).run ≡ true → texts s parts
      ≡ output_to room (together parts ++ later)
  unfolding later-text flat_map
  over parts later k =
      let u = after_bytes s (together parts) in
      let all = fed u.run u.room u.line later in
      let none : later-text u later ≡ [] = sym (spoken-text all) ∙ ap (flat_map text_of) (known_is_all u.run u.room u.line later k) in
      let whole = fed-text (together parts) later in
      texts-together s parts ∙ sym (append-nil (text_in s (together parts))) ∙ ap (λ (x : List ℕ). text_in s (together parts) ++ x) (sym none) ∙ whole

pub parts_written : PartsWritten
unfolding s
parts_written room line parts long = ended room line long parts

pub known_parts_written : KnownPartsWritten
unfolding s
known_parts_written room line parts later long k = over room line long parts later k

-- ---- where the taking pauses

pub goes_on_lem : (run : Run) (free : ℕ) → pauses run free ≡ false → text_bytes ≤ free
goes_on_lem run free e = go (known run) e
  where
    go : (b : Bool) → cond b true (ltb free text_bytes) ≡ false → text_bytes ≤ free
    go true k = absurd (true_false k)
    go false k = ltb-false free text_bytes k

-- ---- a text byte by byte

-- some bytes are taken, and their text is at the front of the buffer
pub record Taking (s : Stand) (text : List ℕ) (u : Stand) (taken waiting : ℕ) (out : List ℕ) : Type 0 where
  pub within : taken ≤ length text
  pub stand : u ≡ after_bytes s (take taken text)
  pub fits : waiting ≤ length out
  pub front : take waiting out ≡ text_in s (take taken text)

pub taking_none : (s : Stand) (text out : List ℕ) → Taking s text s 0 0 out
unfolding after_bytes answers_in text_in flat_map
taking_none s text out = record { within = omega arith; stand = refl; fits = omega arith; front = refl }

next_take : (text : List ℕ) (i : ℕ) → i < length text → take (i + 1) text ≡ take i text ++ (get_or text i 0 ∷ [])
next_take text i h = ap (λ (n : ℕ). take n text) (add-one i) ∙ take-suc text i 0 h

one-after : (s : Stand) (b : ℕ) → after_bytes s (b ∷ []) ≡ after_byte s b
unfolding after_bytes
one-after s b = refl

one-text : (s : Stand) (b : ℕ) → text_in s (b ∷ []) ≡ text_of (byte_taken s.run s.room s.line b).answer
unfolding answers_in text_in flat_map
one-text s b = append-nil (text_of (byte_taken s.run s.room s.line b).answer)

pub taking_next : {s : Stand} {text : List ℕ} {u : Stand} {taken waiting : ℕ} {out : List ℕ} → Taking s text u taken waiting out
    → taken < length text
    → {r : Taken} {left held : List ℕ} → TakenIs (byte_taken u.run u.room u.line (get_or text taken 0)) r left held
    → {w : ℕ} {m : List ℕ} → Put (text_of r.answer) waiting out w m
    → Taking s text (record { run = r.run; room = left; line = held }) (taken + 1) w m
taking_next {s} {text} {u} {taken} {waiting} {out} t more {r} {left} {held} d {w} {m} p =
    let b = get_or text taken 0 in
    let grown = next_take text taken more in
    let here : record { run = r.run; room = left; line = held } ≡ after_byte u b = rw (d.taken, d.words, d.bytes) in
    let said : text_of r.answer ≡ text_in u (b ∷ []) = ap text_of d.answer ∙ sym (one-text u b) in
    record {
      within = omega (arith, more);
      stand = here ∙ sym (one-after u b) ∙ ap (λ (x : Stand). after_bytes x (b ∷ [])) t.stand ∙ sym (after_more s (take taken text) (b ∷ []))
          ∙ ap (after_bytes s) (sym grown);
      fits = omega (arith, p.room, p.next, put_length p);
      front = put-text p ∙ rw (t.front, said, t.stand) (sym (text_more s (take taken text) (b ∷ []))) ∙ ap (text_in s) (sym grown);
    }

pub took : {s : Stand} {text : List ℕ} {run : Run} {room line : List ℕ} {taken waiting : ℕ} {out : List ℕ}
    → Taking s text (record { run = run; room = room; line = line }) taken waiting out
    → (taken < length text → pauses run (length out - waiting) ≡ true)
    → TookSome s text (record { run = run; taken = taken; waiting = waiting }) (record { run = run; room = room; line = line }) out
took t why = record { within = t.within; stand = t.stand; fits = t.fits; front = t.front; pausing = why }

pub took_all : {s : Stand} {text : List ℕ} {run : Run} {room line : List ℕ} {taken waiting : ℕ} {out : List ℕ}
    → Taking s text (record { run = run; room = room; line = line }) taken waiting out
    → length text ≤ taken
    → TookSome s text (record { run = run; taken = length text; waiting = waiting }) (record { run = run; room = room; line = line }) out
took_all {text = text} {taken = taken} t over =
    let same : taken ≡ length text = omega (arith, over, t.within) in rw (← same) (took t (λ l. absurd (omega (arith, l, over))))

-- ---- the end of the input

pub end-put : (run : Run) {a : Answer} → a ≡ end_of run → {l m : List ℕ} {r : ℕ} → Put (text_of a) 0 l r m
    → take (length (text_of (end_of run))) m ≡ text_of (end_of run)
end-put run e p = let said = ap text_of e in rw said at (front-text p)

-- ---- the outcomes told apart
abbrev pub place : Outcome → ℕ
place Going = 0
place Known = 1
place Ended = 2
place Unread = 3
place Unwritten = 4

pub differ : (a b : Outcome) → eqb (place a) (place b) ≡ false → a ≡ b → ⊥
differ a b d e = eqb-false (place a) (place b) d (ap place e)

-- ---- part by part

-- what is left of a part, as the code lends it
pub rest-lent : (u : Stand) (part : List ℕ) (taken : ℕ) {r : Took} {v : Stand} {out : List ℕ}
    → TookSome u (take (length part - taken) (drop taken part)) r v out → TookSome u (drop taken part) r v out
rest-lent u part taken t = let same : take (length part - taken) (drop taken part)
    ≡ drop taken part = take_all (length part - taken) (drop taken part) (omega (arith, length-drop taken part)) in rw same at t

-- more of a part is taken
pub part_more : (s : Stand) (part : List ℕ) {u : Stand} (taken : ℕ) → taken ≤ length part → u ≡ after_bytes s (take taken part)
    → {r : Took} {v : Stand} {out : List ℕ} → TookSome u (take (length part - taken) (drop taken part)) r v out
    → (taken + r.taken ≤ length part) × (v ≡ after_bytes s (take (taken + r.taken) part))
part_more s part {u} taken within e {r} {v} lent =
    let t = rest-lent u part taken lent in
    let most : r.taken ≤ length part - taken = rw (length-drop taken part) at t.within in
    let all : take (taken + r.taken) part ≡ take taken part ++ take r.taken (drop taken part) = take-add taken r.taken part in (
      omega (arith, most, within),
      t.stand ∙ ap (λ (x : Stand). after_bytes x (take r.taken (drop taken part))) e
          ∙ sym (after_more s (take taken part) (take r.taken (drop taken part))) ∙ ap (after_bytes s) (sym all),
    )

-- some of a part is taken, where there is some and there is room
after_none : (s : Stand) → after_bytes s [] ≡ s
unfolding after_bytes
after_none s = refl

text-none : (s : Stand) → text_in s [] ≡ []
unfolding text_in answers_in flat_map
text-none s = refl

pub some-taken : (u : Stand) (rest : List ℕ) {r : Took} {v : Stand} (out : List ℕ) → TookSome u rest r v out → known u.run
    ≡ false → 0 < length rest
    → text_bytes ≤ length out → 0 < r.taken
some-taken u rest {r} {v} out t k more room = go r.taken t.stand t.front t.pausing
  where
    go : (n : ℕ) → v ≡ after_bytes u (take n rest) → take r.waiting out ≡ text_in u (take n rest)
        → (n < length rest → pauses v.run (length out - r.waiting) ≡ true) → 0 < n
    go (suc n) e f p = omega arith
    go zero e f p =
        let here : v ≡ u = e ∙ after_none u in
        let none : r.waiting ≡ 0 = sym (length-take-le r.waiting out t.fits) ∙ ap length (f ∙ text-none u) in
        let full : cond (known u.run) true (ltb (length out - r.waiting) text_bytes)
        ≡ true = ap (λ (x : Stand). pauses x.run (length out - r.waiting)) (sym here) ∙ p more in
        absurd (omega (
          arith,
          ltb-true (length out - r.waiting) text_bytes (ap (λ (b : Bool). cond b true (ltb (length out - r.waiting) text_bytes)) (sym k)
              ∙ full),
          none,
          room,
        ))

pub part-begun : (s : Stand) → s ≡ after_bytes s []
part-begun s = sym (after_none s)

module _ {s : Stand} {part : List ℕ} {run : Run} {room line : List ℕ} {taken : ℕ} (within : taken ≤ length part)
    (stand : record { run = run; room = room; line = line } ≡ after_bytes s (take taken part)) where
  pub part_unwritten : TookPart s part Unwritten (record { run = run; room = room; line = line })
  part_unwritten = record { taken = taken; within = within; stand = stand; all = λ e. absurd (differ Unwritten Going refl e); either = inr refl }

  pub part-stopped : (known run ≡ false → length part ≤ taken) → TookPart s part Going (record { run = run; room = room; line = line })
  part-stopped why = record { taken = taken; within = within; stand = stand; all = λ _ k. omega (arith, why k, within); either = inl refl }

-- ---- what was read

-- what is left where the program does not go on
pub not_going : (o : Outcome) → OneOf (1 ∷ 2 ∷ 3 ∷ 4 ∷ []) (tag_of the_type o) → o ≡ Going → ⊥
not_going Going k e = ⊎_elim (λ i. omega (arith, i)) (⊎_elim (λ i. omega (arith, i)) (⊎_elim (λ i. omega (arith, i)) (λ i. omega (arith, i)))) k
not_going Known k e = differ Known Going refl e
not_going Ended k e = differ Ended Going refl e
not_going Unread k e = differ Unread Going refl e
not_going Unwritten k e = differ Unwritten Going refl e

-- nothing is taken where nothing was read
pub read-nothing : (outcome : Outcome) → eqb (place outcome) 0 ≡ false → eqb (place outcome) 1 ≡ false → eqb (place outcome) 3 ≡ false
    → (s : Stand) (part : List ℕ) → length part ≡ 0
    → WentOn s part (record { run = s.run; outcome = outcome }) s
read-nothing outcome going knows unread s part none =
    record {
      taken = 0;
      within = omega arith;
      stand = sym (after_none s);
      all = λ e. absurd (differ outcome Going going e);
      some = λ e. absurd (differ outcome Going going e);
      ended = λ _. none;
      other = (differ outcome Known knows, differ outcome Unread unread);
    }

pub went_on : {s : Stand} {part : List ℕ} {t : Turn} {u : Stand} → TookPart s part t.outcome u → (length part ≡ 0 → ⊥) → WentOn s part t u
went_on {t = t} p any =
    record {
      taken = p.taken;
      within = p.within;
      stand = p.stand;
      all = p.all;
      some = λ _. omega (arith, any);
      ended = λ e. absurd (no Ended refl refl e);
      other = (no Known refl refl, no Unread refl refl);
    }
  where
    no : (o : Outcome) → eqb (place o) 0 ≡ false → eqb (place o) 4 ≡ false → t.outcome ≡ o → ⊥
    no o going unwritten e = ⊎_elim (λ k. differ o Going going (sym e ∙ k)) (λ k. differ o Unwritten unwritten (sym e ∙ k)) p.either

-- ---- one reading

pub read_known : (s : Stand) (input : List ℕ) → known s.run ≡ true → ReadSome s input (record { run = s.run; outcome = Known }) s
read_known s input k = record { stops = λ _. (refl, refl); reads = λ e. absurd (true_false (sym k ∙ e)) }

pub read_failed : (s : Stand) (input : List ℕ) → known s.run ≡ false → ReadSome s input (record { run = s.run; outcome = Unread }) s
read_failed s input k = record { stops = λ e. absurd (true_false (sym e ∙ k)); reads = λ _. inl (refl, refl) }

pub read_taken : (n : ℕ) (input : List ℕ) {s u : Stand} {r : Turn} → n ≤ length input → known s.run ≡ false → WentOn s (take n input) r u
    → ReadSome s input r u
read_taken n input few k w = record { stops = λ e. absurd (true_false (sym e ∙ k)); reads = λ _. inr (n, few, w) }

-- what the loop needs of it: the part that was taken, which is not empty where the program goes on
record Onward (s : Stand) (r : Turn) (u : Stand) : Type 0 where
  part : List ℕ
  stand : u ≡ after_bytes s part
  rightly : r.outcome ≡ Known → known u.run ≡ true
  some : r.outcome ≡ Going → 0 < length part

went_onward : {s : Stand} (part : List ℕ) {r : Turn} {u : Stand} → known s.run ≡ false → WentOn s part r u → Onward s r u
went_onward {s} part {r} {u} k w =
    record {
      part = take w.taken part;
      stand = w.stand;
      rightly = λ e. absurd (w.other.0 e);
      some =
          λ e. go w.taken w.within w.stand (w.all e) (w.some e);
    }
  where
    -- where nothing is taken the run stands as before, and its answer is not known
    go : (n : ℕ) → n ≤ length part → u ≡ after_bytes s (take n part) → (known u.run ≡ false → n ≡ length part)
        → 0 < length part → 0 < length (take n part)
    go (suc n) within stand all some = omega (arith, length-take-le (suc n) part within)
    go zero within stand all some = absurd (omega (arith, all (ap (λ (x : Stand). known x.run) (stand ∙ after_none s) ∙ k), some))

failed_onward : {s : Stand} {r : Turn} {u : Stand} → (r.outcome ≡ Unread) × (u ≡ s) → Onward s r u
failed_onward {s} bad =
    record {
      part = [];
      stand = bad.1 ∙ sym (after_none s);
      rightly = λ e. absurd (differ Unread Known refl (sym bad.0 ∙ e));
      some = λ e. absurd (differ Unread Going refl (sym bad.0 ∙ e));
    }

read-onward : {s : Stand} {input : List ℕ} {r : Turn} {u : Stand} → ReadSome s input r u → Onward s r u
read-onward {s} {input} {r} {u} t = go (known s.run) refl
  where
    go : (b : Bool) → known s.run ≡ b → Onward s r u
    go true k =
        let here = t.stops k in
        record {
          part = [];
          stand = here.1 ∙ sym (after_none s);
          rightly = λ _. ap (λ (x : Stand). known x.run) here.1 ∙ k;
          some = λ e. absurd (differ Known Going refl (sym here.0 ∙ e));
        }
    go false k = ⊎_elim failed_onward (λ w. went_onward (take w.0 input) k w.2) (t.reads k)

-- ---- all parts

pub behind-none : (room line : List ℕ) {run : Run} → run ≡ ready
    → Behind after_bytes (begun room line) 0 (record { run = run; room = room; line = line })
behind-none room line e = rw e (behind-nothing after_bytes (begun room line) (after_none (begun room line)))

behind_more : {s u v : Stand} {n : ℕ} {r : Turn} → Behind after_bytes s n u → (o : Onward u r v) → (m : ℕ)
    → m ≤ n + length o.part → Behind after_bytes s m v
behind_more b o m few = behind-part after_bytes after_more b o.part o.stand m few

pub behind-next : {s u v : Stand} {n : ℕ} {input : List ℕ} {r : Turn} → Behind after_bytes s n u → ReadSome u input r v → r.outcome ≡ Going
    → Behind after_bytes s (n + 1) v
behind-next {n = n} b t e = let o = read-onward t in behind_more b o (n + 1) (omega (arith, o.some e))

pub ran : {s u v : Stand} {n : ℕ} {input : List ℕ} {r : Turn} → RoomFor 8 s.room → Behind after_bytes s n u
    → ReadSome u input r v → (r.outcome ≡ Going → ⊥)
    → Ran s r.outcome v
ran {n = n} fits b t stops =
    let o = read-onward t in
    record { count = n; behind = behind_more b o n (omega arith); rightly = o.rightly; never = λ e. absurd (stops e); room = fits }

pub ran_on : {s u : Stand} {n : ℕ} → RoomFor 8 s.room → Behind after_bytes s n u → 2 ^ 64 ≤ n + 1 → Ran s Going u
ran_on {n = n} fits b e = record { count = n; behind = b; rightly = λ k. absurd (differ Going Known refl k); never = λ _. e; room = fits }
