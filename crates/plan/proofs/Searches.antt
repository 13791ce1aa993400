-- What a search over a table's flows found.
use Rattle.std.proofs.Common.{◌≡◌, ℕ, ◌+◌, ◌-◌, ◌<◌, Bool, true, false, cond, List, length, get_or, Some, None, Option, refl, sym, ap, ◌∙◌, subst, arith}
use Rattle.std.specs.Fn.{Called}
use Rattle.std.specs.Iterator.Runs.{Run, SomeRun, EachRunFrom, EveryRun, AllItemsGive, IsFirstToGive, ItemsMapTo, ProjectsRun}
use Rattle.std.specs.Option.{MatchOption, IfSome, IsSomeAnd, option_map}
use Rattle.std.proofs.lemmas.Option.{none-some, same_Some}
use denote.Param.Members.{Mut}
use denote.Ref.{Bor}
use Rattle.table.specs.declared.flow.Flow.{Flow}
use Rattle.table.specs.Blank.{blank}
use Rattle.table.specs.Content.{Content}
use Rattle.bounds.specs.Sums.{count, flow}
use Rattle.bounds.specs.Bounds.{side, frame}
use Rattle.plan.specs.declared.refusal.FlowFault.{FlowFault}
use Rattle.plan.specs.Faults.{flow_fault, fault_at, Faultless, FirstFault}
use Rattle.plan.proofs.Checked.{fits}

-- an item of an enumerated slice, by its place and the element there
item : {X Q : Type 0} (o : Option (ℕ × Bor X)) (b : Option (Bor X)) (k : ℕ) (x : X) (P : ℕ × Bor X → Type 0) → IfSome o (λ e. e.0 ≡ k) → b ≡ option_map (λ e. e.1) o
    → option_map (λ (y : Bor X). y.now) b ≡ Some x → IfSome o P → ((e : ℕ × Bor X) → P e → e.0 ≡ k → e.1.now ≡ x → Q) → Q
item None b k x P n e h p then = absurd (none-some x (sym (ap (option_map (λ y. y.now)) e) ∙ h))
item (Some i) b k x P n e h p then = then i p n (same_Some _ _ (sym (ap (option_map (λ y. y.now)) e) ∙ h))

in_some : {A : Type 0} (o : Option A) (P : A → Type 0) → IsSomeAnd o P → IfSome o P
in_some None P h = tt
in_some (Some x) P h = h

-- where `find_map` over an enumerated slice stopped, if its closure computes `answer` of a place and the element there
abbrev pub Stopped : {X B : Type 0} → List X → (ℕ → X → Option B) → Option B → Type 0
Stopped {X} xs answer r = MatchOption r ((k : ℕ) (d : X) → k < length xs → answer k (get_or xs k d) ≡ None)
    (λ y. (i : ℕ) × (i < length xs) × ((d : X) → answer i (get_or xs i d) ≡ Some y) × ((k : ℕ) (d : X) → k < i → answer k (get_or xs k d) ≡ None))

module _ {S T X B F : Type 0} {steps : S → Option (ℕ × Bor X) → S → Type 0} {source : T → Option (Bor X) → T → Type 0} {g : Mut F ((ℕ × Bor X) × Unit {0}) (Option B)} {f : F} (answer : ℕ → X → Option B)
    (gives : (e : ℕ × Bor X) (o : Option B) (f' : F) → Called g f (e, tt) o f' → (f' ≡ f) × (o ≡ answer e.0 e.1.now)) where
  module _ (p : Run steps) (q : Run source) (xs : List X) (places : (k : ℕ) → IfSome (p.at k) (λ e. e.0 ≡ k)) (projects : ProjectsRun p q (λ e. e.1)) (whole : q.whole ≡ p.whole)
      (items : ItemsMapTo q (λ y. y.now) xs) where
    gave : (k : ℕ) (d : X) (o : Option B) → k < p.len → IfSome (p.at k) (λ e. Called g f (e, tt) o f) → answer k (get_or xs k d) ≡ o
    gave k d o l h =
        item (p.at k) (q.at k) k (get_or xs k d) _ (places k) (projects.2 k) (items.2 k d (omega (arith, projects.0))) h
        (λ e called n x. let r = (gives e o f called).1 in cc)

    gave_some : (k : ℕ) (d : X) (o : Option B) → k < p.len → IsSomeAnd (p.at k) (λ e. Called g f (e, tt) o f) → answer k (get_or xs k d) ≡ o
    gave_some k d o l h = gave k d o l (in_some (p.at k) (λ e. Called g f (e, tt) o f) h)

    stopped : (r : Option B) → MatchOption r ((p.whole ≡ true) × AllItemsGive p g f None) (λ y. (i : ℕ) × (i < p.len) × (p.len ≡ i + 1) × IsFirstToGive p g f (Some y) None i) → Stopped xs answer r
    stopped None h = λ k d l. gave k d None (omega (arith, items.1 (whole ∙ h.0), projects.0)) (h.1 (λ e o f' c. (gives e.0 o f' c).0) k)
    stopped (Some y) h =
        let hit = h.3 (λ e o f' c. (gives e.0 o f' c).0) in (
          h.0,
          omega (arith, h.1, items.0, projects.0),
          λ d. gave_some h.0 d (Some y) h.1 hit.0,
          λ k d l. gave_some k d None (omega (arith, h.1)) (hit.1 k l),
        )

  -- the same from the clauses `runs` of the three calls, and what the slice's iterator has left
  pub first_mapped : {s : S} {t : T} (rest : T → List X) (r : Option B) (xs : List X)
      → SomeRun steps s (λ p. MatchOption r ((p.whole ≡ true) × AllItemsGive p g f None) (λ y. (i : ℕ) × (i < p.len) × (p.len ≡ i + 1) × IsFirstToGive p g f (Some y) None i))
      → EachRunFrom steps s (λ p. ((k : ℕ) → IfSome (p.at k) (λ e. e.0 ≡ k)) × SomeRun source t (λ q. ProjectsRun p q (λ e. e.1) × (q.whole ≡ p.whole)))
      → EveryRun source (λ q. ItemsMapTo q (λ y. y.now) (rest q.from)) → rest t ≡ xs → Stopped xs answer r
  first_mapped rest r xs found enumerated items left =
      let e = enumerated found.0 found.0.seen found.1 in
      let q = e.1.0 in
      stopped found.0 q xs e.0 e.1.2.0 e.1.2.1 (subst (λ ys. ItemsMapTo q (λ y. y.now) ys) (ap rest e.1.1 ∙ left) (items q q.seen)) r found.2

-- the fault of the flow at place k, with its number
abbrev pub numbered_fault : Content → ℕ → Flow → Option (ℕ × FlowFault)
numbered_fault c k f = option_map (λ fault. (k + 1, fault)) (flow_fault (side c) (frame c) f)

no_fault : (n : ℕ) (o : Option FlowFault) → option_map {U = ℕ × FlowFault} (λ fault. (n, fault)) o ≡ None → o ≡ None
no_fault n None e = refl
no_fault n (Some fault) e = absurd (none-some _ (sym e))

the_fault : (n : ℕ) (o : Option FlowFault) (e : ℕ × FlowFault) → option_map {U = ℕ × FlowFault} (λ fault. (n, fault)) o ≡ Some e → (n ≡ e.0) × (o ≡ Some e.1)
the_fault n None e h = absurd (none-some _ h)
the_fault n (Some fault) e h = let same = same_Some _ _ h in (ap (λ x. x.0) same, ap (λ x. Some x.1) same)

-- the first flow with a fault, as the search answers it
pub faults_from : (c : Content) (r : Option (ℕ × FlowFault)) → Stopped c.flows (numbered_fault c) r → MatchOption r (Faultless c (count c)) (λ e. FirstFault c e.0 e.1)
faults_from c = ends
  where
    fit : (n : ℕ) → ((k : ℕ) (d : Flow) → k < n → numbered_fault c k (get_or c.flows k d) ≡ None) → Faultless c n
    fit n h k l = fits (side c) (frame c) (flow c k) (no_fault (k + 1) _ (h k blank l))

    ends : (r : Option (ℕ × FlowFault)) → Stopped c.flows (numbered_fault c) r → MatchOption r (Faultless c (count c)) (λ e. FirstFault c e.0 e.1)
    ends None h = fit (count c) h
    ends (Some e) h =
        let here : (h.0 + 1 ≡ e.0) × (fault_at c h.0 ≡ Some e.1) = the_fault _ _ e (h.2 blank) in
        let back : e.0 - 1 ≡ h.0 = omega (arith, here.0) in
        record {
          numbered = omega (arith, here.0);
          within = omega (arith, here.0, h.1);
          here = ap (fault_at c) back ∙ here.1;
          before = fit (e.0 - 1) (λ k d l. h.3 k d (omega (arith, back)));
        }

pub fails : (b : Bool) (n : ℕ) → cond b (Some n) None ≡ None → b ≡ false
fails true n e = absurd (none-some _ (sym e))
fails false n e = refl
