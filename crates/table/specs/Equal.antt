-- What comparing flows and tables computes, part by part.
use Rattle.std.specs.Prelude.{ℕ, Bool, ◌&&◌, ◌==◌}
use Rattle.std.specs.Cmp.{IsEquivalence, and_equiv, on_equiv}
use Rattle.std.specs.Cmp.Lexicographic.{pointwise, lists_equiv}
use Rattle.std.specs.Cmp.Rules.{comparing}
use Rattle.std.proofs.Common.{rules}
use Rattle.table.specs.declared.flow.Dimensions.{Dimensions}
use Rattle.table.specs.declared.flow.Flow.{Flow}
use Rattle.table.specs.declared.model.Table.{Table}
use Rattle.table.specs.Content.{content}

abbrev pub same_place : ℕ × ℕ → ℕ × ℕ → Bool
same_place a b = a.0 == b.0 && a.1 == b.1

abbrev pub same_flow : Flow → Flow → Bool
same_flow f g = same_place f.source g.source && (same_place f.destination g.destination && (f.burst.0 == g.burst.0 && f.rate.0 == g.rate.0))

abbrev pub same_dimensions : Dimensions → Dimensions → Bool
same_dimensions d e = d.side == e.side && (d.depth.0 == e.depth.0 && d.frame.0 == e.frame.0)

abbrev pub same_table : Table → Table → Bool
same_table t u = same_dimensions t.dimensions u.dimensions && pointwise same_flow (content t).flows (content u).flows

-- the law that both impls of a comparison of tables name
pub same_table_equiv : IsEquivalence same_table
same_table_equiv =
    and_equiv
    (on_equiv (λ (t : Table). t.dimensions) {E = same_dimensions} (search (comparing, rules)))
    (on_equiv (λ (t : Table). (content t).flows) (lists_equiv {E = same_flow} (search (comparing, rules))))
