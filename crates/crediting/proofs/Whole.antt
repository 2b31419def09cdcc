-- Line by line or all at once: the report is the same.
-- Assumes nothing.
use Rattle.std.proofs.Common.{◌≡◌, ℕ, suc, ◌+◌, ◌≤◌, Bool, true, false, cond, eqb, List, [], ◌∷◌, ◌++◌, length, take, drop, sym, refl, ap, ◌∙◌, append_assoc, append-nil, arith, length-append, drop_of_length-le, length-take-le, take_all, take_at, eq-eqb, ne_eqb, eqb-true}
use native.Mathlib.Decide.{dec_le}
use borrow.Author.Tests.{eqb-false}
use Rattle.rules.specs.Choice.{all}
use Rattle.rules.specs.Words.{Table}
use Rattle.rules.specs.Soundness.{SoundTable, map_of}
use Rattle.rules.specs.Calls.{recover}
use Rattle.rules.specs.Results.{change_result}
use Rattle.rules.specs.Histories.{Accepted}
use Rattle.rules.specs.declared.ScriptCall.TheVariants.{Recover}
use Rattle.rules.specs.Answers.{Change}
use Rattle.std.specs.Prelude.{Ok, Err}
use Rattle.rules.proofs.Words.Made.{made-long}
use Rattle.rules.proofs.Calls.MadeLists.{after-whole}
use Rattle.rules.proofs.Cutting.Restoring.{recovery_restores}
use Rattle.lines.specs.Lines.{line_of}
use Rattle.lines.specs.Samples.{sample_of}
use Rattle.lines.specs.declared.Sample.{Sample}
use Rattle.lines.specs.declared.Sample.TheVariants.{Key, Bad as BadSample, Other}
use Rattle.following.specs.Scripts.{ending_of}
use Rattle.std.specs.Prelude.{None as no_cut}
use Rattle.following.specs.declared.Ending.{Ending}
use Rattle.following.specs.declared.Ending.TheVariants.{Whole, Bad as Torn, Over}
use Rattle.replaying.specs.Events.{lent, answer_to, table_after}
use Rattle.replaying.specs.Replays.{begun, table_of, Turned, counted, turn_of, finished, finish_of}
use Rattle.replaying.specs.declared.Answer.{Answer}
use Rattle.replaying.specs.declared.Answer.TheVariants.{Nothing, Created, Changed, Kept, Found, Events, Bad as BadAnswer}
use Rattle.replaying.specs.declared.Replay.{Replay}
use Rattle.crediting.specs.Ledgers.{Figures, figures_of, Report, unrecovered, bad_line, counts, keys_in, all_good, line_behind, once_recovered}
use Rattle.crediting.specs.Ledgers.{no_sample_yet, samples_report, event_due, starts_sample, unless_ended, report_from, report_of}
use Rattle.crediting.specs.Books.{Book, sampled, spoilt, recovered_book, stage_recovered, when_recovered, first_sampled, stage_after, script_line}
use Rattle.crediting.specs.Books.{sample_where, first_said, later_said, script_read, sample_read, line_at, with_line, script_end, end_at, at_end}
use Rattle.crediting.specs.Books.{report_at, report_in, report_behind, known_at, no_figures, ReportsAreOne}
use Rattle.crediting.specs.declared.Stage.{Stage}
use Rattle.crediting.specs.declared.Stage.TheVariants.{Script, Samples, Unmade, Unrecovered, Bad}
use Rattle.crediting.proofs.Figures.{looked_in, figures_more, figures-none}

-- ---- where the report is known

pub false_true : {A : Type 0} → false ≡ true → A
false_true e = let z : ◌≡◌ {A = ℕ} 0 1 = ap (λ (b : Bool). cond b 1 0) e in absurd (omega (arith, z))

line_stays : (s : Stage) → known_at s ≡ true → (line : List ℕ) (b : Book) → line_at s line b ≡ b
line_stays Script k line b = false_true k
line_stays Samples k line b = false_true k
line_stays (Unmade e) k line b = refl
line_stays (Unrecovered e) k line b = refl
line_stays (Bad n) k line b = refl

end_stays : (s : Stage) → known_at s ≡ true → (torn : Bool) (b : Book) → end_at s torn b ≡ b
end_stays Script k torn b = false_true k
end_stays Samples k torn b = false_true k
end_stays (Unmade e) k torn b = refl
end_stays (Unrecovered e) k torn b = refl
end_stays (Bad n) k torn b = refl

pub known_behind : (b : Book) → known_at b.stage ≡ true → (ls : List (List ℕ)) (torn : Bool) → report_behind b ls torn ≡ report_in b
unfolding with_line at_end
known_behind b k [] torn = ap report_in (end_stays b.stage k torn b)
known_behind b k (l ∷ ls) torn = ap (λ (x : Book). report_behind x ls torn) (line_stays b.stage k l b) ∙ known_behind b k ls torn

-- ---- the samples

no_line-good : (ls : List (List ℕ)) (l : List ℕ) (torn : Bool) → keys_in (l ∷ ls) ≡ [] → all_good (l ∷ ls) torn ≡ false
no_line-good ls l true e = refl
no_line-good ls l false e = rw e (ne_eqb 0 (suc (length ls)) (λ k. omega arith))

eqb_next : (a b : ℕ) → eqb (suc a) (suc b) ≡ eqb a b
eqb_next a b = go (eqb a b) refl
  where
    go : (r : Bool) → eqb a b ≡ r → eqb (suc a) (suc b) ≡ r
    go true e = eq-eqb (suc a) (suc b) (ap suc (eqb-true a b e))
    go false e = ne_eqb (suc a) (suc b) (λ k. eqb-false a b e (omega (arith, k)))

more_good : (key : ℕ) (l : List ℕ) (ls : List (List ℕ)) (torn : Bool) → keys_in (l ∷ ls) ≡ key ∷ keys_in ls → all_good (l ∷ ls) torn
    ≡ all_good ls torn
more_good key l ls true e = refl
more_good key l ls false e = rw e (eqb_next (length (keys_in ls)) (length ls))

-- these words hold a sound table, and so many samples were read
module _ (p : Replay) (room : List ℕ) (u : Table) (table : table_of p room ≡ u) (sound : SoundTable u) where
  figures : List ℕ → Figures
  figures keys = figures_of (map_of u) (looked_in u) keys

  book : List ℕ → Book
  book keys = record { replay = p; room = room; stage = Samples; figures = figures keys }

  bad : ℕ → Report
  bad n = bad_line (line_behind p.script.lines n)

  book_more : (keys : List ℕ) (key : ℕ) → sampled key (book keys) ≡ book (keys ++ (key ∷ []))
  unfolding sampled book figures
  book_more keys key =
      let e = figures_more u sound keys key in
      rw table (ap (λ (x : Figures). record { replay = p; room = room; stage = Samples; figures = x }) e)

  spoilt_report : (keys : List ℕ) (ls : List (List ℕ)) (torn : Bool) → report_behind (spoilt (book keys)) ls torn ≡ bad (length keys)
  unfolding report_in book bad figures figures_of
  spoilt_report keys ls torn =
      known_behind (spoilt (book keys)) refl ls torn ∙ ap bad_line (omega arith)

  torn_end : (keys : List ℕ) → report_in (at_end true (book keys)) ≡ bad (length keys + 0)
  unfolding report_in at_end book bad figures figures_of
  torn_end keys = ap bad_line (omega arith)

  whole-end : (keys : List ℕ) → report_in (at_end false (book keys)) ≡ counts (figures (keys ++ []))
  unfolding report_in at_end book
  whole-end keys = rw (append-nil keys)

  line-behind : (keys : List ℕ) (l : List ℕ) → with_line l (book keys) ≡ later_said (sample_of l) (book keys)
  unfolding with_line sample_read book
  line-behind keys l = refl

  samples-behind : (ls : List (List ℕ)) (torn : Bool) (keys : List ℕ)
      → report_behind (book keys) ls torn ≡ cond (all_good ls torn) (counts (figures (keys ++ keys_in ls))) (bad (length keys + length (keys_in ls)))
  samples-behind [] true keys = torn_end keys
  samples-behind [] false keys = whole-end keys
  samples-behind (l ∷ ls) torn keys = rw (line-behind keys l) (go (sample_of l) refl (λ ks. samples-behind ls torn ks))
    where
      right : List ℕ → Bool → Report
      right ks good = cond good (counts (figures (keys ++ ks))) (bad (length keys + length ks))

      spoils : later_said (sample_of l) (book keys) ≡ spoilt (book keys) → keys_in (l ∷ ls) ≡ []
          → report_behind (later_said (sample_of l) (book keys)) ls torn ≡ right (keys_in (l ∷ ls)) (all_good (l ∷ ls) torn)
      spoils e n = rw (e, no_line-good ls l torn n, n) (spoilt_report keys ls torn ∙ ap bad (omega arith))

      go : (s : Sample) → sample_of l ≡ s
          → ((ks : List ℕ)
          → report_behind (book ks) ls torn ≡ cond (all_good ls torn) (counts (figures (ks ++ keys_in ls))) (bad (length ks + length (keys_in ls))))
          → report_behind (later_said (sample_of l) (book keys)) ls torn ≡ right (keys_in (l ∷ ls)) (all_good (l ∷ ls) torn)
      go (Key key) e later =
          let more : keys_in (l ∷ ls) ≡ key ∷ keys_in ls = rw e in
          let rest = later (keys ++ (key ∷ [])) in
          let long : length (keys ++ (key ∷ [])) + length (keys_in ls)
          ≡ length keys + suc (length (keys_in ls)) = omega (arith, length-append keys (key ∷ [])) in
          let said : later_said (sample_of l) (book keys) ≡ book (keys ++ (key ∷ [])) = rw e (book_more keys key) in
          let last : right (key ∷ keys_in ls) (all_good ls torn)
          ≡ right (keys_in (l ∷ ls)) (all_good (l ∷ ls) torn) = rw (more_good key l ls torn more, more) in
          ap (λ (b : Book). report_behind b ls torn) said ∙ rest ∙ rw (append_assoc keys (key ∷ []) (keys_in ls), long) last
      go BadSample e later = spoils (rw e) (rw e)
      go Other e later = spoils (rw e) (rw e)

-- ---- recovery before the first sample

pub either_way : (good : Bool) (r : Report) → cond good r r ≡ r
either_way true r = refl
either_way false r = refl

-- the table in the first words, with as many words as before
kept-room : (n : ℕ) (room t : List ℕ) → length t ≡ length (take n room) → take n (t ++ drop n room) ≡ t
kept-room n room t e = go (dec_le n (length room))
  where
    go : Dec (n ≤ length room) → take n (t ++ drop n room) ≡ t
    go (yes l) = take_at t (drop n room) n (e ∙ length-take-le n room l)
    go (no l) =
        let nothing : drop n room ≡ [] = drop_of_length-le room {i = n} (omega arith) in
        let few : length (take n room) ≡ length room = ap length (take_all n room (omega arith)) in
        rw (nothing, append-nil t) (take_all n t (omega (arith, e, few)))

module _ (p : Replay) (room : List ℕ) where
  before : Table
  before = table_of p room

  recovered : Table
  recovered = table_after before Recover no_cut

  script_book : Book
  script_book = record { replay = p; room = room; stage = Script; figures = no_figures }

  words : List ℕ
  words = recovered ++ drop p.words room

  kept : table_of p words ≡ recovered
  unfolding words recovered before table_after
  kept = kept-room p.words room _ (ap length (after-whole (table_of p room) lent recover) ∙ simp made-long)

  recovered_book_lem : recovered_book script_book
      ≡ record { replay = counted p p.script; room = words; stage = stage_recovered (answer_to before Recover no_cut); figures = no_figures }
  unfolding recovered_book script_book words recovered before
  recovered_book_lem = refl

  recovers : (n : ℕ) → answer_to before Recover no_cut ≡ Changed (Ok n) → SoundTable recovered
  unfolding recovered before answer_to table_after
  recovers n e = recovery_restores (table_of p room) lent (accepted (change_result (table_of p room) lent recover).0 e)
    where
      accepted : (r : Change) → Changed r ≡ Changed (Ok n) → Accepted r
      accepted (Ok m) k = tt
      accepted (Err r) k = let z : ◌≡◌ {A = ℕ} 0 1 = cc in absurd (omega arith)

  -- ---- the ways on from there, by what recovery answers

  behind : ℕ → Report
  behind n = bad_line (line_behind p.script.lines n)

  stage-book : Stage → Book
  stage-book s = record { replay = counted p p.script; room = words; stage = s; figures = no_figures }

  first_report : ℕ → List (List ℕ) → Bool → Stage → Report
  first_report key ls torn s = report_behind (when_recovered s key (stage-book s)) ls torn

  -- the first sample of a sound table
  first_counted : SoundTable recovered → (key : ℕ) (ls : List (List ℕ)) (torn : Bool) → first_report key ls torn Samples
      ≡ cond (all_good ls torn) (counts (figures_of (map_of recovered) (looked_in recovered) (key ∷ keys_in ls))) (behind (1 + length (keys_in ls)))
  unfolding first_report stage-book behind book figures bad
  first_counted sound key ls torn =
      let b = book (counted p p.script) words recovered kept sound in
      let none : b [] ≡ stage-book Samples = ap (λ (x : Figures). record { replay = counted p p.script; room = words; stage = Samples; figures = x })
      (figures-none (map_of recovered) (looked_in recovered)) in
      let one : sampled key (stage-book Samples) ≡ b (key ∷ []) = ap (sampled key) (sym none)
      ∙ book_more (counted p p.script) words recovered kept sound [] key in
      ap (λ (x : Book). report_behind x ls torn) one ∙ samples-behind (counted p p.script) words recovered kept sound ls torn (key ∷ [])

  told : Change
  told = (change_result before lent recover).0

  answered : answer_to before Recover no_cut ≡ Changed told
  unfolding told answer_to
  answered = refl

  first_is : (key : ℕ) (ls : List (List ℕ)) (torn : Bool) → report_behind (first_sampled key script_book) ls torn
      ≡ first_report key ls torn (stage_recovered (Changed told))
  unfolding first_sampled first_report stage-book
  first_is key ls torn =
      ap (λ (b : Book). report_behind (when_recovered b.stage key b) ls torn) recovered_book_lem
      ∙ ap (λ (a : Answer). first_report key ls torn (stage_recovered a)) answered

  counted_keys : List ℕ → Report
  counted_keys keys = counts (figures_of (map_of recovered) (looked_in recovered) keys)

  report_by : Change → List ℕ → Bool → Report
  report_by r keys good =
      cond good (once_recovered (Changed r) (counted_keys keys))
      (cond (no_sample_yet keys) (behind (length keys)) (once_recovered (Changed r) (behind (length keys))))

  samples_by : (ls : List (List ℕ)) (torn : Bool) → samples_report before p.script.lines ls torn ≡ report_by told (keys_in ls) (all_good ls torn)
  unfolding samples_report report_by behind counted_keys recovered told answer_to
  samples_by ls torn = refl

  first-behind : (l : List ℕ) (ls : List (List ℕ)) (torn : Bool) (key : ℕ) → sample_of l ≡ Key key
      → report_behind (first_sampled key script_book) ls torn ≡ samples_report before p.script.lines (l ∷ ls) torn
  unfolding report_by counted_keys first_report stage-book report_in
  first-behind l ls torn key e =
      let more : keys_in (l ∷ ls) ≡ key ∷ keys_in ls = rw e in
      first_is key ls torn ∙ go told (λ n k. recovers n (answered ∙ ap Changed k))
      ∙ rw (samples_by (l ∷ ls) torn, more_good key l ls torn more, more)
    where
      go : (r : Change) → ((n : ℕ) → r ≡ Ok n → SoundTable recovered) → first_report key ls torn (stage_recovered (Changed r))
          ≡ report_by r (key ∷ keys_in ls) (all_good ls torn)
      go (Ok n) sound = first_counted (sound n refl) key ls torn
          ∙ ap (λ (x : ℕ). cond (all_good ls torn) (counted_keys (key ∷ keys_in ls)) (behind x)) (omega arith)
      go (Err f) sound = known_behind (stage-book (Unrecovered f)) refl ls torn ∙ sym (either_way (all_good ls torn) (unrecovered f))

  bad_first : (l : List ℕ) (ls : List (List ℕ)) (torn : Bool) → sample_of l ≡ BadSample → report_behind (spoilt script_book) ls torn
      ≡ samples_report before p.script.lines (l ∷ ls) torn
  unfolding report_by behind report_in script_book
  bad_first l ls torn e =
      let none : keys_in (l ∷ ls) ≡ [] = rw e in
      known_behind (spoilt script_book) refl ls torn ∙ rw (samples_by (l ∷ ls) torn, no_line-good ls l torn none, none)

  end-behind : report_in (recovered_book script_book) ≡ samples_report before p.script.lines [] false
  unfolding report_by counted_keys report_in
  end-behind = ap report_in recovered_book_lem ∙ ap (λ (a : Answer). report_at (stage_recovered a) no_figures) answered ∙ go told ∙ sym (samples_by [] false)
    where
      go : (r : Change) → report_at (stage_recovered (Changed r)) no_figures ≡ report_by r [] true
      go (Ok n) = ap counts (sym (figures-none (map_of recovered) (looked_in recovered)))
      go (Err f) = refl

-- ---- the whole input

script-end : (p : Replay) (room : List ℕ) (torn : Bool) → report_in (at_end torn (script_book p room)) ≡ report_from room p [] torn
unfolding at_end script_book before report_in finish_of
script-end p room torn = go (ending_of p.script torn)
  where
    go : (x : Ending) → report_in (script_end (finished p x) (script_book p room))
        ≡ unless_ended (finished p x) (samples_report (table_of p room) p.script.lines [] false)
    go Whole = end-behind p room
    go (Torn n) = refl
    go Over = end-behind p room

-- a line of the script
script-line : (p : Replay) (room l : List ℕ) (ls : List (List ℕ)) (torn : Bool)
    → ((q : Replay) (left : List ℕ) → report_behind (script_book q left) ls torn ≡ report_from left q ls torn)
    → report_behind (script_line l (script_book p room)) ls torn ≡ unless_ended (turn_of room p (line_of l)).answer
    (report_from (turn_of room p (line_of l)).room (turn_of room p (line_of l)).replay ls torn)
unfolding script_line script_book report_in
script-line p room l ls torn later = go t.answer
  where
    t : Turned
    t = turn_of room p (line_of l)

    next : Stage → Book
    next s = record { replay = t.replay; room = t.room; stage = s; figures = no_figures }

    goes_on_lem : report_behind (next Script) ls torn ≡ report_from t.room t.replay ls torn
    goes_on_lem = later t.replay t.room

    go : (a : Answer) → report_behind (next (stage_after a)) ls torn ≡ unless_ended a (report_from t.room t.replay ls torn)
    go (Created (Ok tt)) = goes_on_lem
    go (Created (Err e)) = known_behind (next (Unmade e)) refl ls torn
    go (BadAnswer n) = known_behind (next (Bad n)) refl ls torn
    go Nothing = goes_on_lem
    go (Changed r) = goes_on_lem
    go (Kept r n) = goes_on_lem
    go (Found q) = goes_on_lem
    go (Events n) = goes_on_lem

-- what a line says there, and what becomes of it
abbrev heard : Bool → Sample → Sample
heard true s = s
heard false s = Other

where_heard : (d : Bool) (l : List ℕ) → sample_where d l ≡ heard d (sample_of l)
where_heard true l = refl
where_heard false l = refl

read_as : (p : Replay) (room l : List ℕ) → with_line l (script_book p room) ≡ first_said (heard (event_due p.script) (sample_of l)) l (script_book p room)
unfolding with_line script_read script_book
read_as p room l = ap (λ (s : Sample). first_said s l (script_book p room)) (where_heard (event_due p.script) l)

script-behind : (ls : List (List ℕ)) (torn : Bool) (p : Replay) (room : List ℕ) → report_behind (script_book p room) ls torn ≡ report_from room p ls torn
unfolding before
script-behind [] torn p room = script-end p room torn
script-behind (l ∷ ls) torn p room =
    ap (λ (b : Book). report_behind b ls torn) (read_as p room l) ∙ go (event_due p.script) (sample_of l) refl
    (script-line p room l ls torn (λ q left. script-behind ls torn q left))
  where
    right : Bool → Report
    right begin =
        cond begin (samples_report (table_of p room) p.script.lines (l ∷ ls) torn)
        (unless_ended (turn_of room p (line_of l)).answer (report_from (turn_of room p (line_of l)).room (turn_of room p (line_of l)).replay ls torn))

    go : (d : Bool) (s : Sample) → sample_of l ≡ s → report_behind (script_line l (script_book p room)) ls torn ≡ right false
        → report_behind (first_said (heard d s) l (script_book p room)) ls torn ≡ right (all (d ∷ starts_sample s ∷ []))
    go true (Key key) e other = first-behind p room l ls torn key e
    go true BadSample e other = bad_first p room l ls torn e
    go true Other e other = other
    go false s e other = other

pub reports_are_one : ReportsAreOne
unfolding report_of script_book
reports_are_one room ls torn = script-behind ls torn begun room
