-- Request d), "Lines, in order: ..", as one table of reports and their texts, computed from the definitions of `Texts`: with numbers of many
-- digits, several functions, and samples of further ones.
-- Assumes nothing.
use Prim.Native.String.{String}
use Rattle.std.specs.Prelude.{◌≡◌, refl, List, [], ◌∷◌, map}
use Rattle.rules.specs.declared.Refusal.TheVariants.{BadCreation, NoKind}
use Rattle.lines.specs.Lines.{bytes}
use Rattle.lines.specs.Texts.{digits_in, decimal_text}
use Rattle.crediting.specs.Ledgers.{Report, unmade, unrecovered, bad_line, counts}
use Rattle.reporting.specs.Texts.{function_text, function_texts, counts_text, report_text}

abbrev pub table : List (Report × String)
table = (
  counts (record {
    samples = 10000000000000000020;
    missing = 4321;
    credits = record {
      functions = 0 ∷ 10 ∷ 12345 ∷ 18446744073709551615 ∷ [];
      samples = 3 ∷ 1001 ∷ 2 ∷ 999999999999999999 ∷ [];
      other = 2012;
    };
    buckets = 18446744073709551615;
  }),
  "samples=10000000000000000020\nnone=4321\nfn0=3\nfn10=1001\nfn12345=2\nfn18446744073709551615=999999999999999999\nother=2012\nbuckets=18446744073709551615\n",
)
    ∷ (
      counts (record { samples = 0; missing = 0; credits = record { functions = []; samples = []; other = 0 }; buckets = 0 }),
      "samples=0\nnone=0\nother=0\nbuckets=0\n",
    )
    ∷ (bad_line 10000017, "bad=10000017\n")
    ∷ (unmade BadCreation, "made=13\n")
    ∷ (unrecovered NoKind, "answer=12\n")
    ∷ []

-- the definitions compute what the request writes
pub examples : map (λ (x : Report × String). report_text x.0) table ≡ map (λ (x : Report × String). bytes x.1) table
unfolding digits_in decimal_text function_text function_texts counts_text
examples = refl
