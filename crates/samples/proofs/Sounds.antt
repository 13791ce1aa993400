-- Checks of a table that compute.
use Rattle.std.proofs.Common.{◌≡◌, ℕ, Bool, true, not, ◌&&◌}
use Rattle.std.proofs.lemmas.Bool.{and_parts}
use Rattle.table.specs.Content.{Content}
use Rattle.bounds.specs.Sums.{count, flow}
use Rattle.bounds.specs.Bounds.{side, frame, saturated, crowded}
use Rattle.plan.specs.Faults.{side_fits, frame_fits, depth_fits, flow_fits}
use Rattle.plan.specs.Plans.{Whole, Roomy, Sound, Deep, shallow}
use Rattle.plan.proofs.Filled.{deep_from}
use Rattle.samples.proofs.Cases.{every, all_true, none_below, nowhere}

abbrev pub is_whole : Content → Bool
is_whole c = side_fits c && (frame_fits c && (depth_fits c && every (count c) (λ k. flow_fits (side c) (frame c) (flow c k))))

abbrev pub is_roomy : Content → Bool
is_roomy c = every (side c) (λ y. every (side c) (λ x. not (saturated c (x, y))))

abbrev pub is_calm : Content → Bool
is_calm c = every (count c) (λ k. not (crowded c k))

pub whole_from : (c : Content) → is_whole c ≡ true → Whole c
whole_from c e =
    let a = and_parts _ _ e in
    let b = and_parts _ _ a.1 in
    let d = and_parts _ _ b.1 in
    record { ranged = (a.0, b.0, d.0); flows = all_true (count c) (λ k. flow_fits (side c) (frame c) (flow c k)) d.1 }

pub roomy_from : (c : Content) → is_whole c ≡ true → is_roomy c ≡ true → Roomy c
roomy_from c e f = record { whole = whole_from c e; turns = nowhere (side c) (saturated c) f }

pub sound_from : (c : Content) → is_whole c ≡ true → is_roomy c ≡ true → is_calm c ≡ true → Sound c
sound_from c e f g = record { roomy = roomy_from c e f; sources = none_below (count c) (crowded c) g }

pub deep_by : (c : Content) (x : ℕ → ℕ) → every (side c) (λ y. every (side c) (λ column. not (shallow c x (column, y)))) ≡ true → Deep c x
deep_by c x e = deep_from c x (nowhere (side c) (shallow c x) e)
