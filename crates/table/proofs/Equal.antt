-- The comparisons of flows and of tables, part by part, hold of equal values alone.
use Rattle.std.proofs.Common.{◌≡◌, ◌&&◌, true, refl, subst, rules}
use Rattle.std.specs.Prelude.{Decides}
use Rattle.std.specs.Cmp.{first_so, second_so}
use Rattle.std.specs.Cmp.Lexicographic.{pointwise_decides}
use Rattle.table.specs.declared.flow.Dimensions.{Dimensions}
use Rattle.table.specs.declared.flow.Flow.{Flow}
use Rattle.table.specs.declared.model.Table.{Table}
use Rattle.table.specs.Content.{content}
use Rattle.table.specs.Equal.{same_dimensions, same_flow, same_table}
use Rattle.table.proofs.Same.{same_content}

pub same_flow_decides : (f g : Flow) → Decides (same_flow f g) (f ≡ g)
same_flow_decides f g = search rules

same_dimensions_decides : (d e : Dimensions) → Decides (same_dimensions d e) (d ≡ e)
same_dimensions_decides d e = search rules

pub same_table_decides : (t u : Table) → Decides (same_table t u) (t ≡ u)
same_table_decides t u =
    let dimensions = same_dimensions_decides t.dimensions u.dimensions in
    let flows = pointwise_decides same_flow_decides (content t).flows (content u).flows in
    let itself : same_table t t ≡ true =
    λ i. (same_dimensions_decides t.dimensions t.dimensions).1 refl i
    && (pointwise_decides same_flow_decides (content t).flows (content t).flows).1 refl i in (
      λ e. same_content t u (λ i. record { dimensions = dimensions.0 (first_so _ _ e) i; flows = flows.0 (second_so _ _ e) i }),
      λ e. subst (λ v. same_table t v ≡ true) e itself,
    )
