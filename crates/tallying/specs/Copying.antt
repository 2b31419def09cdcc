-- What a tally holds says all that it has inside, so that a tally may be copied.
-- Assumes nothing.
use Rattle.std.proofs.Common.{◌≡◌, ℕ, ◌-◌, List, [], ◌∷◌, ◌++◌, length, take, drop, replicate, refl, ap, sym, ◌∙◌, arith, take-append-drop, length-take-le}
use Rattle.std.proofs.lemmas.List.{length-map}
use Rattle.tallying.specs.Tallies.{functions_of, samples_of, credits_from, held_in, inside_of, unused, Orderly}
use Rattle.tallying.specs.declared.Credit.{Credit}
use Rattle.tallying.specs.declared.Tally.TheInside.{Inside}

parted : (cs : List Credit) → credits_from (functions_of cs) (samples_of cs) ≡ cs
parted [] = refl
parted (c ∷ cs) = ap (λ (l : List Credit). c ∷ l) (parted cs)

module _ (t : Inside) (h : Orderly t) where
  used_long : length (functions_of (take t.used t.credits)) ≡ t.used
  used_long = length-map (take t.used t.credits) (λ (c : Credit). c.function) ∙ length-take-le t.used t.credits (omega (arith, h.few, h.all))

  behind : replicate (512 - length (functions_of (take t.used t.credits))) unused ≡ drop t.used t.credits
  behind = ap (λ (n : ℕ). replicate (512 - n) unused) used_long ∙ sym h.rest

  whole : (inside_of (held_in t)).credits ≡ t.credits
  whole =
      ap (λ (l : List Credit). l ++ replicate (512 - length (functions_of (take t.used t.credits))) unused) (parted (take t.used t.credits))
      ∙ ap (λ (l : List Credit). take t.used t.credits ++ l) behind ∙ take-append-drop t.used t.credits

  pub gives_back : inside_of (held_in t) ≡ t
  gives_back i = record { credits = whole i; used = used_long i; other = t.other }
