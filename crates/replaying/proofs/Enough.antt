-- A program's room is enough for every table that it makes, and for no larger one.
-- Assumes nothing.
use Rattle.std.proofs.Common.{◌≡◌, ℕ, ◌+◌, ◌^◌, ◌<◌, ◌≤◌, ◌⊎◌, length, take, inl, inr, ⊎_elim, arith, length-take-le, take_all, pow_pos, pow_mono, pow-add}
use native.Mathlib.Decide.{dec_le}
use Rattle.rules.specs.Words.{Table, words_for}
use Rattle.rules.specs.Demands.{GoodCreation}
use Rattle.rules.proofs.Calls.Creating.{create_answers}
use Rattle.replaying.specs.Sentences.{Verdicts}
use Rattle.replaying.specs.Rooms.{RoomIsEnough, RoomMakesAll, LargerIsRefused}
use Rattle.replaying.proofs.Sentences.{table_made, table_not_made}

words_grow : (c d : ℕ) → c ≤ d → words_for c ≤ words_for d
unfolding words_for
words_grow c d small =
    let less : c + 1 ≤ d + 1 = omega (arith, small) in
    let grows : 2 ^ (c + 1) ≤ 2 ^ (d + 1) = pow_mono less in
    omega (arith, grows)

words_more : (c : ℕ) → words_for c < words_for (c + 1)
unfolding words_for
words_more c = omega (arith, pow-add 2 (c + 1) 1, pow_pos (c + 1))

pub room_is_enough : RoomIsEnough
room_is_enough most room enough c small = length-take-le (words_for c) room (omega (arith, enough, words_grow c most small))

wrong_length : (size c k mul1 mul2 : ℕ) → size < words_for c → GoodCreation size 1 c k mul1 mul2 → ⊥
unfolding words_for
wrong_length size c k mul1 mul2 short good = omega (arith, short, good.long)

pub room_makes_all : RoomMakesAll
room_makes_all most room few fits p next c k mul1 mul2 small good =
    let t = take (words_for c) room in
    let long : length t ≡ words_for c = fits c small in
    (table_made room p next c k mul1 mul2 (omega (arith, small, few))
    (⊎_elim (λ x. x.1) (λ x. absurd (x.0 (rw (← long) at good))) (create_answers t 1 c k mul1 mul2))).0

pub larger_is_refused : LargerIsRefused
larger_is_refused most room long p next c k mul1 mul2 large = (table_not_made room p next c k mul1 mul2 (go (dec_le c 8))).0
  where
    t : Table
    t = take (words_for c) room

    short : length t < words_for c
    short =
        let more : words_for most < words_for c = omega (arith, words_more most, words_grow (most + 1) c (omega (arith, large))) in
        rw (take_all (words_for c) room (omega (arith, long, more))) (omega (arith, long, more))

    denied : Verdicts room c k mul1 mul2 13
    denied = ⊎_elim (λ x. absurd (wrong_length (length t) c k mul1 mul2 short x.0)) (λ x. x.1) (create_answers t 1 c k mul1 mul2)

    go : Dec (c ≤ 8) → (8 < c) ⊎ ((c ≤ 8) × Verdicts room c k mul1 mul2 13)
    go (yes small) = inr (small, denied)
    go (no more) = inl (omega arith)
