use Rattle.std.proofs.Common.{◌≡◌, ℕ, ◌<◌, ◌≢◌, List, ◌++◌, map, length, get_or, ap, ◌∙◌, arith, below_more}
use Rattle.std.proofs.lemmas.List.{length-map, length-set, length-take-le, map-append, get_or_append_left, map-set, get_or-set_same, get_or-set_other}
use Rattle.table.specs.Content.{content}
use Rattle.bounds.specs.declared.lines.Line.{Line}
use Rattle.bounds.specs.Sums.{count}
use Rattle.bounds.specs.Lines.{line_of}
use Rattle.bounds.proofs.lines.build.lines_of.Goals as goal

pub loop-k-init : goal.loop-k-init
loop-k-init c =
    let long = ap length c.flows-count.ensures.value in
    (length-take-le _ _ (omega (arith, long, c.flows-count.ensures.few)) ∙ long, λ i h. absurd (omega arith))

pub loop-k-preserved : goal.loop-k-preserved
loop-k-preserved c =
    let k = c.loop-k.k in
    let ls = c.loop-k.line-items in
    let l = c.line_of.result in
    let f = line_of (count (content c.args.table.now)) in (
      length-set ls k l ∙ c.loop-k.invariant.0,
      below_more _ _
          (λ i h x. let ne : i ≢ k = omega arith in
          ap (λ vs. get_or vs i 0) (map-set (f x) ls k l) ∙ (get_or-set_other (map (f x) ls) k i (f x l) 0 ne ∙ c.loop-k.invariant.1 i h x))
          (λ x. let in-k : k < length (map (f x) ls) = omega (arith, c.loop-k-test.true, c.loop-k.auto.line-items, length-map ls (f x)) in
          ap (λ vs. get_or vs k 0) (map-set (f x) ls k l) ∙ (get_or-set_same (map (f x) ls) k (f x l) 0 in-k ∙ c.line_of.ensures x)),
    )

pub returns-clause-each : goal.returns-clause-each
returns-clause-each c i h x =
    let ls = c.loop-k.line-items in
    let long = c.loop-k.invariant.0 in
    let within : i < c.loop-k.k = omega (arith, h, long, c.loop-k-test.false, c.loop-k.auto.line-items) in
    let inside : i < length ls = omega (arith, h, long) in
    let front : (m : ℕ) (rest : List Line) → get_or (map (line_of m x) (ls ++ rest)) i 0 ≡ get_or (map (line_of m x) ls) i 0 =
    λ m rest. ap (λ vs. get_or vs i 0) (map-append (line_of m x) ls rest) ∙ get_or_append_left (map (line_of m x) ls) (map (line_of m x) rest) 0 i (omega (arith, inside, length-map ls (line_of m x)))
    in
    front _ _ ∙ (ap (λ fs. get_or (map (line_of (length fs) x) ls) i 0) c.flows-count.ensures.value ∙ c.loop-k.invariant.1 i within x)
