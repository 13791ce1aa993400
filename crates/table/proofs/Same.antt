-- Two tables of the same content are the same table.
use Rattle.std.proofs.Common.{◌≡◌, length, get_or, take, sym, ap, ◌∙◌, subst, ⊎_elim, arith, length-take}
use Rattle.std.proofs.lemmas.List.{ext_get_or, get_or-take}
use Rattle.std.proofs.lemmas.Bool.{cases_lt}
use Rattle.table.specs.declared.model.Table.{Table}
use Rattle.table.specs.contracts.model.Table.{the_values, the_ghost, the_propositions}
use Rattle.table.specs.contracts.flow.Dimensions as dimensions
use Rattle.table.specs.contracts.flow.Flow as flow
use Rattle.table.specs.Blank.{blank}
use Rattle.table.specs.Content.{content}

values : Table → the_values
values t = (t.dimensions, (t.count, (t.flows, tt)))

build : (v : the_values) → the_ghost v → Table
build v g = record {
  dimensions = v.0;
  count = v.1.0;
  flows = v.1.1.0;
  whole = g.0;
  few = g.1.0;
  rest = g.1.1.0;
}

same_built : (v w : the_values) → v ≡ w → (g : the_ghost v) (h : the_ghost w) → build v g ≡ build w h
same_built v w p g h =
    subst (λ z. (k : the_ghost z) → build v g ≡ build z k) p
    (λ k. ap (build v) (the_propositions (dimensions.the_row).coded (flow.the_row).coded v g k)) h

pub held : (t : Table) → length (content t).flows ≡ t.count
held t = simp length-take (omega (arith, t.whole, t.few))

pub same_content : (t u : Table) → content t ≡ content u → t ≡ u
unfolding values build
same_content t u e =
    let many : t.count ≡ u.count = sym (held t) ∙ (ap (λ c. length c.flows) e ∙ held u) in
    let fronts : take t.count t.flows ≡ take u.count u.flows = ap (λ c. c.flows) e in
    let lists : t.flows ≡ u.flows =
    ext_get_or blank t.flows u.flows (t.whole ∙ sym u.whole)
    (λ k h. ⊎_elim
    (λ l. sym (get_or-take t.count t.flows k blank l) ∙ (ap (λ l. get_or l k blank) fronts ∙ get_or-take u.count u.flows k blank (omega arith)))
    (λ l. t.rest k l ∙ sym (u.rest k (omega arith)))
    (cases_lt k t.count))
    in
    same_built (values t) (values u)
    (λ i. (ap (λ c. c.dimensions) e i, (many i, (lists i, tt))))
    (t.whole, (t.few, (t.rest, tt)))
    (u.whole, (u.few, (u.rest, tt)))
