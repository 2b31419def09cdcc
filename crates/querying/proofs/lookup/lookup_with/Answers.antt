-- `querying::lookup::lookup_with` meets its contract.
-- Assumes nothing.
use mathlib.Core.Path.{ap, ◌∙◌}
use Rattle.rules.specs.Places.{hashes_of, hit_in, seek, probes, places_of, lookup}
use Rattle.rules.specs.declared.Hashes.{Hashes}
use Rattle.rules.proofs.Places.PlacesWithin.{places_within}
use Rattle.rules.proofs.Calls.Meanings.{lookup-tells}
use Rattle.querying.proofs.Standings.{seek-within}
use Rattle.querying.proofs.lookup.lookup_with.Goals as goal

pub find-requires : goal.find-requires
unfolding hashes_of
find-requires c =
    let pre = c.requires in
    (pre.0, ap (λ (x : Hashes). x.tag) pre.1, pre.2)

pub returns : goal.returns
unfolding lookup places_of
returns c =
    let a = c.args in (
      lookup-tells (c.find.ensures ∙ ap (λ (x : Hashes). seek (hit_in a.t.now a.h a.key) 0 (probes a.h.state x)) c.requires.1),
      rw c.find.ensures (seek-within a.t.now a.h a.key (probes a.h.state a.x) 0 (λ p i. places_within _ _ c.requires.0 _ p i)),
    )
