-- The search for a regulator that tells other numbers than its flow.
use Rattle.std.proofs.Common.{◌≡◌, ℕ, ◌+◌, ◌-◌, ◌<◌, Bool, true, false, cond, not, nat_lt, List, [], ◌∷◌, length, get_or, map, min, take, Some, None, Option, refl, sym, ap, ◌∙◌, arith}
use Rattle.std.proofs.lemmas.Bool.{lt-ltb}
use Rattle.std.proofs.lemmas.List.{length-map, length-take-le, get_or-take}
use Rattle.std.proofs.lemmas.Option.{none-some, cond_some}
use Rattle.table.specs.Blank.{blank}
use Rattle.table.specs.Content.{Content}
use Rattle.bounds.specs.Sums.{count}
use Rattle.bounds.specs.Bounds.{frame}
use Rattle.plan.proofs.Searches.{Stopped, fails}
use Rattle.regulator.specs.Meaning.{Meaning}
use Rattle.regulator.specs.Banks.{absent, at, tells, differs, FirstOther}
use Rattle.regulator.proofs.Rows.{at_by}

-- the number of flow k, where there is one and the regulator tells other numbers
abbrev pub other : {R : Type 0} → (R → Meaning) → Content → ℕ → R → Option ℕ
other m c k r = cond (nat_lt k (count c)) (cond (not (tells (m r) (get_or c.flows k blank) (frame c))) (Some (k + 1)) None) None

-- where both tests hold
both : (a b : Bool) (n y : ℕ) → cond a (cond b (Some n) None) None ≡ Some y → (a ≡ true) × (b ≡ true) × (n ≡ y)
both true b n y e = let h = cond_some b n y e in (refl, h.0, h.1)
both false b n y e = absurd (none-some y e)

module _ {R : Type 0} (m : R → Meaning) (c : Content) where
  -- a regulator of the bank, by its place
  there : (bank : List R) (k : ℕ) → k < length bank → (d : R) × (at (map m bank) k ≡ m (get_or bank k d))
  there [] k h = absurd (omega arith)
  there (a ∷ bank) k h = (a, sym (at_by m (a ∷ bank) k a absent h))

  agrees : (bank : List R) (k : ℕ) → k < length bank → k < count c → ((d : R) → other m c k (get_or bank k d) ≡ None) → differs c (map m bank) k ≡ false
  agrees bank k h l none =
      let t = there bank k h in
      fails (differs c (map m bank) k) (k + 1) (rw (t.1) (rw (lt-ltb k (count c) l) at none t.0))

  -- the search went through the regulators that have a flow
  pub others_from : (bank : List R) (n : ℕ) (r : Option ℕ) → n ≡ min (length bank) (count c) → Stopped (take n bank) (other m c) r → FirstOther c (map m bank) r
  others_from bank n r many = ends r
    where
      few : length (map m bank) ≡ length bank
      few = length-map bank m

      long : length (take n bank) ≡ n
      long = length-take-le n bank (omega (arith, many))

      front : (k : ℕ) → k < n → ((d : R) → other m c k (get_or (take n bank) k d) ≡ None) → differs c (map m bank) k ≡ false
      front k l none =
          agrees bank k (omega (arith, l, many)) (omega (arith, l, many)) (λ d. ap (other m c k) (sym (get_or-take n bank k d l)) ∙ none d)

      ends : (r : Option ℕ) → Stopped (take n bank) (other m c) r → FirstOther c (map m bank) r
      ends None h = λ k l. front k (omega (arith, l, many, few)) (λ d. h k d (omega (arith, l, many, few, long)))
      ends (Some y) h =
          let inside : h.0 < n = omega (arith, h.1, long) in
          let t = there bank h.0 (omega (arith, inside, many)) in
          let said : other m c h.0 (get_or bank h.0 t.0) ≡ Some y = ap (other m c h.0) (sym (get_or-take n bank h.0 t.0 inside)) ∙ h.2 t.0 in
          let here = both (nat_lt h.0 (count c)) _ (h.0 + 1) y said in
          let number : h.0 + 1 ≡ y = here.2 in
          let back : y - 1 ≡ h.0 = omega (arith, number) in
          record {
            numbered = omega (arith, number);
            within = omega (arith, number, inside, many, few);
            here = ap (differs c (map m bank)) back ∙ (ap (λ n. not (tells n (get_or c.flows h.0 blank) (frame c))) t.1 ∙ here.1);
            before = λ k l. front k (omega (arith, l, back, inside)) (λ d. h.3 k d (omega (arith, l, back)));
          }
