-- Turn delays and bursts, by what the answer of `turn` says.
use Rattle.std.proofs.Common.{◌≡◌, ℕ, ◌+◌, ◌-◌, ◌*◌, true, Some, None, Option, sym, ap, ◌∙◌, arith}
use Rattle.std.proofs.lemmas.Bool.{cond-true, cond-false}
use Rattle.std.specs.Option.{MatchOption, IsSomeAnd}
use Rattle.table.specs.declared.flow.Flow.{Flow}
use Rattle.table.specs.Content.{Content}
use Rattle.torus.specs.Paths.{turns, corner, turn_of}
use Rattle.torus.proofs.Turned.{turn_none, turn_some}
use Rattle.bounds.specs.Sums.{up, count, flow, over}
use Rattle.bounds.specs.Bounds.{frame, is_beside, room, slack, turning_burst, turn_rates, north_bursts, turn_delay}
use Rattle.bounds.specs.declared.lines.Turn.{Turn}
use Rattle.bounds.specs.Lines.{asked, asked_if, least_burst}

-- what is said of a flow and the router that `turn` answers for it, is said of flow k and its turn
at_turn : (said : Flow → ℕ × ℕ → ℕ) (c : Content) (k : ℕ) (f : Flow) (r : ℕ × ℕ) → f ≡ flow c k → Some r ≡ turn_of f
    → (turns (flow c k) ≡ true) × (said f r ≡ said (flow c k) (corner (flow c k)))
at_turn said c k f r e s =
    let t = turn_some f r s in
    let here : r ≡ corner (flow c k) = t.1 ∙ ap corner e in
    (ap turns (sym e) ∙ t.0, λ i. said (e i) (here i))

-- the delay behind the own slack and what is met at router r
abbrev delay_at : Content → (ℕ → ℕ) → ℕ → Flow → ℕ × ℕ → ℕ
delay_at c x k f r =
    up (f.burst.0 * frame c - f.rate.0) (room c r - (turn_rates c r - f.rate.0))
    + up (north_bursts c x r + over c (is_beside c k r) (slack c)) (room c r)

pub delay_turning : (c : Content) (x : ℕ → ℕ) (k : ℕ) (f : Flow) (r : ℕ × ℕ) → f ≡ flow c k → Some r ≡ turn_of f → delay_at c x k f r ≡ turn_delay c x k
unfolding turn_delay
delay_turning c x k f r e s = let t = at_turn (delay_at c x k) c k f r e s in t.1 ∙ sym (cond-true _ _ _ t.0)

pub delay_straight : (c : Content) (x : ℕ → ℕ) (k : ℕ) (f : Flow) → f ≡ flow c k → None ≡ turn_of f → turn_delay c x k ≡ 0
unfolding turn_delay
delay_straight c x k f e s = cond-false _ _ _ (ap turns (sym e) ∙ turn_none f s)

-- the least burst beside what is met at router r
abbrev burst_at : Content → (ℕ → ℕ) → ℕ → Flow → ℕ × ℕ → ℕ
burst_at c x k f r =
    (f.burst.0 * frame c - f.rate.0)
    + up (f.rate.0 * (north_bursts c x r + over c (is_beside c k r) (slack c))) (room c r)

-- what `Turn` says of flow k, if it turns
pub burst_from : (c : Content) (x : ℕ → ℕ) (k : ℕ) (f : Flow) (o : Option (ℕ × ℕ)) (t : Option Turn) → f ≡ flow c k → o ≡ turn_of f
    → MatchOption o (t ≡ None) (λ r. IsSomeAnd t (λ u. (y : ℕ → ℕ) → asked (count c) y u ≡ up (f.rate.0 * (north_bursts c y r + over c (is_beside c k r) (slack c))) (room c r)))
    → f.burst.0 * frame c - f.rate.0 + asked_if (count c) x t ≡ least_burst c x k
burst_from c x k f None t e s h =
    let own = ap (λ (g : Flow). g.burst.0 * frame c - g.rate.0) e in
    omega (arith, own, ap (asked_if (count c) x) h, cond-false (turns (flow c k)) (turning_burst c x k) (slack c k) (ap turns (sym e) ∙ turn_none f s))
burst_from c x k f (Some r) (Some u) e s h =
    let t = at_turn (burst_at c x k) c k f r e s in
    (λ i. f.burst.0 * frame c - f.rate.0 + h x i) ∙ (t.1 ∙ sym (cond-true _ _ _ t.0))
burst_from c x k f (Some r) None e s h = absurd h
