-- A table has at most one plan, and a refused table has none.
use Rattle.std.proofs.Common.{◌≡◌, ℕ, ◌+◌, ◌-◌, ◌*◌, ◌/◌, ◌%◌, ◌<◌, Bool, true, false, cond, List, length, Ok, Err, Result, sym, ap, ◌∙◌, subst, ⊎_elim, arith}
use Rattle.std.proofs.lemmas.Nat.{mod_below, div_below, div-add-mod'}
use Rattle.std.proofs.lemmas.List.{ext_get_or}
use Rattle.std.proofs.lemmas.Bool.{cases_lt, true≢false, ltb-true}
use Rattle.quantity.specs.declared.Packets.{Packets}
use Rattle.quantity.specs.declared.Units.{Units}
use Rattle.table.specs.declared.fault.Fault.{Fault}
use Rattle.table.specs.Content.{Content, content}
use Rattle.torus.proofs.Rings.{side_some}
use Rattle.bounds.specs.Sums.{count, flow, units_of}
use Rattle.bounds.specs.Bounds.{side, frame, is_north, north_bursts, turn_rates, turn_slacks, room, backlog, LeastBursts}
use Rattle.bounds.specs.Bursts.{Ends}
use Rattle.bounds.specs.Sigma.{sum_same}
use Rattle.plan.specs.declared.model.Plan.{Plan}
use Rattle.plan.specs.declared.refusal.Refusal.{Refusal}
use Rattle.plan.specs.declared.refusal.Refusal.TheVariants as reasons
use Rattle.plan.specs.declared.refusal.Refusal.TheVariants.{Side, Frame, Depth, Saturated, Crowded, Unbounded, Shallow}
use Rattle.plan.specs.Faults.{depth}
use Rattle.plan.specs.Plans.{packets_of, Sound, Backlogs, Over, Deep}
use Rattle.plan.specs.Refusals.{Against, Admitted, Alone}
use Rattle.plan.proofs.Checked.{no_fault}

-- what a plan says of its table
pub record Facts (c : Content) (us : List Units) (ps : List Packets) : Type 0 where
  pub long : length us ≡ 64
  pub wide : length ps ≡ 64
  pub sound : Sound c
  pub least : LeastBursts c (units_of us)
  pub ends : Ends c us
  pub backlogs : Backlogs c (units_of us) ps
  pub over : Over c ps
  pub deep : Deep c (units_of us)

pub facts : (p : Plan) → Facts (content p.table) p.bursts p.backlogs
facts p = record {
  long = p.long.0;
  wide = p.long.1;
  sound = record { roomy = record { whole = record { ranged = p.ranged; flows = p.faultless }; turns = p.roomy }; sources = p.calm };
  least = record { keeps = record { straight = p.straight; turning = p.turning; capped = p.capped }; minimal = p.minimal };
  ends = p.ends;
  backlogs = p.queues;
  over = p.over;
  deep = p.deep;
}

least_once : (c : Content) (x y : ℕ → ℕ) → LeastBursts c x → LeastBursts c y → (k : ℕ) → k < count c → x k ≡ y k
least_once c x y a b k h = omega (arith, a.minimal y b.keeps k h, b.minimal x a.keeps k h)

module _ (c : Content) (us vs : List Units) (ps qs : List Packets) (f : Facts c us ps) (g : Facts c vs qs) where
  same_units : us ≡ vs
  same_units =
      ext_get_or (record { 0 = 0 }) us vs (f.long ∙ sym g.long)
      (λ k h. let e : units_of us k ≡ units_of vs k =
      ⊎_elim (λ l. least_once c (units_of us) (units_of vs) f.least g.least k l) (λ l. f.ends k l ∙ sym (g.ends k l)) (cases_lt k (count c))
      in λ i. record { 0 = e i })

  same_packets : ps ≡ qs
  same_packets =
      ext_get_or (record { 0 = 0 }) ps qs (f.wide ∙ sym g.wide)
      (λ k h. let e : packets_of ps k ≡ packets_of qs k = ⊎_elim (inside k) (λ l. f.over k l ∙ sym (g.over k l)) (cases_lt k (side c * side c)) in
      λ i. record { 0 = e i })
    where
      inside : (k : ℕ) → k < side c * side c → packets_of ps k ≡ packets_of qs k
      inside k l =
          let m = side c in
          let some = side_some m k l in
          let r : ℕ × ℕ = (k % m, k / m) in
          let column = mod_below k m some in
          let row = div_below k m m some l in
          let here = div-add-mod' k m in
          ap (packets_of ps) (sym here) ∙ (f.backlogs r column row ∙ (ap (λ zs. backlog c (units_of zs) r) same_units ∙ (sym (g.backlogs r column row) ∙ ap (packets_of qs) here)))

  pub one_plan : (us ≡ vs) × (ps ≡ qs)
  one_plan = (same_units, same_packets)

both : {b : Bool} → b ≡ true → b ≡ false → ⊥
both h e = true≢false (sym h ∙ e)

backlog_once : (c : Content) (x y : ℕ → ℕ) (r : ℕ × ℕ) → ((k : ℕ) → k < count c → x k ≡ y k) → backlog c x r ≡ backlog c y r
unfolding backlog
backlog_once c x y r h =
    let same : north_bursts c x r ≡ north_bursts c y r = sum_same (count c) _ _ (λ k l. ap (λ v. cond (is_north c r k) v 0) (h k l)) in
    λ i. (turn_slacks c r + turn_rates c r * same i / room c r) / frame c

module _ (c : Content) (us : List Units) (ps : List Packets) (f : Facts c us ps) where
  pub no_plan : (why : Refusal) → Against c why → ⊥
  no_plan Side a = both f.sound.roomy.whole.ranged.0 a
  no_plan Frame a = both f.sound.roomy.whole.ranged.1 a.1
  no_plan Depth a = both f.sound.roomy.whole.ranged.2 a.2
  no_plan (reasons.Flow i fault) a = no_fault (side c) (frame c) (flow c (i - 1)) fault (f.sound.roomy.whole.flows (i - 1) (omega (arith, a.1.numbered, a.1.within))) a.1.here
  no_plan (Saturated r) a = both a.1.here (f.sound.roomy.turns r a.1.column a.1.row)
  no_plan (Crowded i) a = both a.1.here (f.sound.sources (i - 1) (omega (arith, a.1.numbered, a.1.within)))
  no_plan Unbounded a = a.1 (units_of us) f.least.keeps
  no_plan (Shallow r) a =
      let x = a.1.0 in
      let first = a.1.2 in
      let same = backlog_once c x (units_of us) r (least_once c x (units_of us) a.1.1 f.least) in
      omega (arith, same, f.deep r first.column first.row, ltb-true (depth c) (backlog c x r + 1) first.here)

-- the answer of admission is the only one
pub alone : (c : Content) (before after : Plan) (r : Result (Unit {0}) Fault) → Admitted c before after r → Alone c after r
alone c before after (Ok u) e = λ q same.
    one_plan c _ _ _ _ (subst (λ t. Facts t q.bursts q.backlogs) same (facts q)) (subst (λ t. Facts t after.bursts after.backlogs) e (facts after))
alone c before after (Err f) e = λ q same.
    no_plan c _ _ (subst (λ t. Facts t q.bursts q.backlogs) same (facts q)) e.0.0 e.0.2
