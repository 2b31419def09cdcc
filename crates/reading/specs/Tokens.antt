-- Tables over the sixteen token numbers; and slots as marks in one word: slot s at bit 7 + 8s.
-- Assumes nothing.
use Rattle.std.specs.Prelude.{ℕ, ◌+◌, ◌-◌, ◌*◌, ◌/◌, ◌%◌, ◌^◌, ◌<◌, ◌≡◌, Bool, false, cond, eqb}
use Rattle.std.specs.Int.Bits.{bit_and}
use Rattle.std.specs.Int.Count.{count_trailing_zeros}
use Rattle.rules.specs.Forms.{tagged}
use Rattle.rules.specs.declared.Header.{Header}

-- the entry of token number n, where a table is the hexadecimal digits of one number and that of 0 is the lowest
abbrev pub entry_of : ℕ → ℕ → ℕ
entry_of table n = table / 2 ^ (4 * n) % 16

-- a tag: eight bits, and 0 where slots have none
abbrev pub TagFor : Header → ℕ → Type 0
TagFor h tag = (tag < 256) × (tagged h ≡ false → tag ≡ 0)

-- four slots as a number below 16, bit s for slot s: those whose tag is the one given, and those that a lookup reads
abbrev pub bit_where : Bool → ℕ → ℕ
bit_where b s = cond b (2 ^ s) 0

abbrev pub fitting_at : ℕ → ℕ → ℕ → ℕ
fitting_at w tag s = bit_where (eqb (w / 2 ^ (8 + 8 * s) % 256) tag) s

unfoldable pub fitting : ℕ → ℕ → ℕ
fitting w tag = fitting_at w tag 0 + (fitting_at w tag 1 + (fitting_at w tag 2 + fitting_at w tag 3))

unfoldable pub readable : Bool → ℕ → ℕ → ℕ
readable tags w tag = cond tags (fitting w tag) 15

-- the same slots as marks
unfoldable pub spread : ℕ → ℕ
spread n = n % 2 * 2 ^ 7 + (n / 2 % 2 * 2 ^ 15 + (n / 4 % 2 * 2 ^ 23 + n / 8 % 2 * 2 ^ 31))

-- the lowest mark's slot, and the marks without it
unfoldable pub lowest_mark : ℕ → ℕ
lowest_mark marks = count_trailing_zeros 64 marks / 8

unfoldable pub rest_of : ℕ → ℕ
rest_of marks = bit_and marks (marks - 1)
