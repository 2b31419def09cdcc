-- The words that a program lends have room for each of its tables, and for no larger one. Document 01: "Program cap is at most 8; a larger one gives
-- `made=13`." Document 02, request h): "A program over this is limited to cap 7 so that both fit."
-- Assumes nothing.
use Rattle.std.specs.Prelude.{◌≡◌, ℕ, ◌<◌, ◌≤◌, List, length, take}
use Rattle.rules.specs.Words.{words_for}
use Rattle.rules.specs.Demands.{GoodCreation}
use Rattle.rules.specs.declared.Refusal.TheVariants.{BadCreation}
use Rattle.std.specs.Prelude.{Ok, Err}
use Rattle.following.specs.declared.Script.{Script}
use Rattle.following.specs.declared.Asked.TheVariants.{Table as ask_table}
use Rattle.replaying.specs.Replays.{asked_of}
use Rattle.replaying.specs.declared.Answer.TheVariants.{Created}
use Rattle.replaying.specs.declared.Replay.{Replay}

-- the words of every table up to the largest cap
abbrev pub RoomFor : ℕ → List ℕ → Type 0
RoomFor most room = (c : ℕ) → c ≤ most → length (take (words_for c) room) ≡ words_for c

-- in as many words as the largest table has, which `main` lends, there is room for each
abbrev pub RoomIsEnough : Type 0
RoomIsEnough = (most : ℕ) (room : List ℕ) → words_for most ≤ length room → RoomFor most room

-- so `made=13` is never answered for want of room: with a good c, k and multipliers the table is made
abbrev pub RoomMakesAll : Type 0
RoomMakesAll = (most : ℕ) (room : List ℕ) → most ≤ 8 → RoomFor most room → (p : Replay) (next : Script) (c k mul1 mul2 : ℕ) → c ≤ most
    → GoodCreation (words_for c) 1 c k mul1 mul2
    → (asked_of room p next (ask_table c k mul1 mul2)).answer ≡ Created (Ok tt)

-- "a larger one gives `made=13`", also where the largest cap is below 8: a room of just its words has none for a larger table
abbrev pub LargerIsRefused : Type 0
LargerIsRefused = (most : ℕ) (room : List ℕ) → length room ≡ words_for most → (p : Replay) (next : Script) (c k mul1 mul2 : ℕ) → most < c
    → (asked_of room p next (ask_table c k mul1 mul2)).answer ≡ Created (Err BadCreation)
