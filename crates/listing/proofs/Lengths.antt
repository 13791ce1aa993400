-- How long the lines are: every text about a table, a plan or a fault has room.
use Rattle.std.proofs.Common.{◌≡◌, ℕ, suc, ◌+◌, ◌*◌, ◌^◌, ◌<◌, ◌≤◌, List, [], ◌∷◌, ◌++◌, length, get_or, Some, decimal, ap, ◌∙◌, arith, length-append}
use Rattle.std.proofs.lemmas.Fmt.{length-decimal-le}
use Rattle.std.proofs.lemmas.List.{take_all}
use Rattle.table.specs.declared.fault.Fault.{Fault}
use Rattle.table.specs.declared.fault.Place.{Place}
use Rattle.table.specs.declared.fault.Place.TheVariants as places
use Rattle.table.specs.declared.flow.Dimensions.{Dimensions}
use Rattle.table.specs.declared.flow.Flow.{Flow}
use Rattle.table.specs.Blank.{blank}
use Rattle.table.specs.Content.{Content}
use Rattle.bounds.specs.Sums.{count}
use Rattle.plan.specs.declared.told.FlowBounds.{FlowBounds}
use Rattle.plan.specs.declared.told.RouterBounds.{RouterBounds}
use Rattle.plan.specs.Told as told
use Rattle.text.specs.Clipped.{clipped, Joins}
use Rattle.text.proofs.Clips.{joins_one}
use Rattle.listing.specs.Lines.{torus_line, flow_line, flow_lines, count_line, table_text, place_words, refused_line}
use Rattle.listing.specs.Plans.{bounds_line, bounds_lines, queue_line, queue_lines, admitted_line, plan_text}
use Rattle.listing.specs.Small.{DimensionsSmall, FlowSmall, PlaceSmall}

-- three pieces that have room, put at the end of an empty text
pub three : {t₀ t₁ t₂ t₃ : List ℕ} (a b c : List ℕ) → t₀ ≡ [] → t₁ ≡ clipped (t₀ ++ a) → Joins t₁ (λ l. l ++ b) t₂ → t₃ ≡ clipped (t₂ ++ c) → length (a ++ b ++ c) ≤ 8192 → t₃ ≡ a ++ b ++ c
three a b c none first second third room =
    joins_one _ c _ third [] (a ++ b) (second [] a (first ∙ ap (λ t. clipped (t ++ a)) none)) ∙ take_all 8192 (a ++ b ++ c) room

-- one piece more
pub four : {t₀ t₁ t₂ t₃ t₄ : List ℕ} (a b c d : List ℕ) → t₀ ≡ [] → t₁ ≡ clipped (t₀ ++ a) → Joins t₁ (λ l. l ++ b) t₂ → Joins t₂ (λ l. l ++ c) t₃ → t₄ ≡ clipped (t₃ ++ d) → length (a ++ b ++ c ++ d) ≤ 8192 → t₄ ≡ a ++ b ++ c ++ d
four a b c d none first second third fourth room =
    joins_one _ d _ fourth [] (a ++ b ++ c) (third [] (a ++ b) (second [] a (first ∙ ap (λ t. clipped (t ++ a)) none))) ∙ take_all 8192 (a ++ b ++ c ++ d) room

word : (n : ℕ) → n < 2 ^ 16 → length (decimal n) ≤ 5
word n h = length-decimal-le 5 n (omega arith) (omega arith) (omega arith)

long : (n : ℕ) → n < 2 ^ 64 → length (decimal n) ≤ 20
long n h = length-decimal-le 20 n (omega arith) (omega arith) (omega arith)

torus_short : (d : Dimensions) → DimensionsSmall d → length (torus_line d) ≤ 36
torus_short d h = simp length-append (omega (arith, word d.side h.0, word d.depth.0 h.1, word d.frame.0 h.2))

count_short : (n : ℕ) → n < 2 ^ 16 → length (count_line n) ≤ 12
count_short n h = simp length-append (omega (arith, word n h))

flow_short : (n : ℕ) (f : Flow) → n < 2 ^ 16 → FlowSmall f → length (flow_line n f) ≤ 66
flow_short n f k h =
    let number = word n k in
    let column = word f.source.0 h.0.0 in
    let row = word f.source.1 h.0.1 in
    let column' = word f.destination.0 h.1.0 in
    let row' = word f.destination.1 h.1.1 in
    let burst = word f.burst.0 h.2 in
    let rate = word f.rate.0 h.3 in
    simp length-append (omega arith)

flows_short : (n : ℕ) (fs : List Flow) → n + length fs ≤ 2 ^ 16 → ((k : ℕ) → k < length fs → FlowSmall (get_or fs k blank)) → length (flow_lines n fs) ≤ 66 * length fs
flows_short n [] room h = omega arith
flows_short n (f ∷ fs) room h =
    let first = flow_short n f (omega arith) (h 0 (omega arith)) in
    let rest = flows_short (n + 1) fs (omega arith) (λ k l. h (suc k) (omega arith)) in
    omega (arith, length-append (flow_line n f) (flow_lines (n + 1) fs))

pub table_short : (c : Content) → DimensionsSmall c.dimensions → ((k : ℕ) → k < length c.flows → FlowSmall (get_or c.flows k blank)) → length c.flows ≤ 64 → length (table_text c) ≤ 8192
table_short c d f few =
    let first = torus_short c.dimensions d in
    let lines = flows_short 1 c.flows (omega arith) f in
    let last = count_short (length c.flows) (omega arith) in
    let front = torus_line c.dimensions ++ flow_lines 1 c.flows in
    omega (arith, length-append front (count_line (length c.flows)), length-append (torus_line c.dimensions) (flow_lines 1 c.flows))

place_short : (p : Place) → PlaceSmall p → length (place_words p) ≤ 30
place_short (places.Byte n) h = simp length-append (omega (arith, long n h))
place_short (places.Flow n) h = simp length-append (omega (arith, long n h))
place_short (places.Router r) h = simp length-append (omega (arith, word r.0 h.0, word r.1 h.1))
place_short places.Nowhere h = omega arith

pub refused_short : (f : Fault) → f.number < 2 ^ 16 → PlaceSmall f.place → length (refused_line f) ≤ 8192
refused_short f n h = let words = place_short f.place h in simp length-append (omega (arith, word f.number n))

pub bounds_short : (n : ℕ) (b : FlowBounds) → n ≤ 64 → told.FlowSmall (Some b) → length (bounds_line n b) ≤ 88
bounds_short n b few h =
    let number = length-decimal-le 2 n (omega arith) (omega arith) (omega arith) in
    let burst = length-decimal-le 6 b.burst.0 (omega arith) (omega arith) (omega arith) in
    let wait = length-decimal-le 12 b.wait.0 (omega arith) (omega arith) (omega arith) in
    let turn = length-decimal-le 12 b.turn.0 (omega arith) (omega arith) (omega arith) in
    let hops = length-decimal-le 3 b.hops.0 (omega arith) (omega arith) (omega arith) in
    let latency = length-decimal-le 13 b.latency.0 (omega arith) (omega arith) (omega arith) in
    simp length-append (omega arith)

pub queue_short : (r : ℕ × ℕ) (q : RouterBounds) → r.0 < 8 → r.1 < 8 → told.RouterSmall (Some q) → length (queue_line r q) ≤ 33
queue_short r q column row h =
    let x = length-decimal-le 1 r.0 (omega arith) (omega arith) (omega arith) in
    let y = length-decimal-le 1 r.1 (omega arith) (omega arith) (omega arith) in
    let backlog = length-decimal-le 3 q.backlog.0 (omega arith) (omega arith) (omega arith) in
    let depth = length-decimal-le 3 q.depth.0 (omega arith) (omega arith) (omega arith) in
    simp length-append (omega arith)

admitted_short : (n : ℕ) → n < 2 ^ 16 → length (admitted_line n) ≤ 15
admitted_short n h = simp length-append (omega (arith, word n h))

-- 64 lines of flows and 64 lines of routers have room
pub plan_short : (c : Content) (x : ℕ → ℕ) → DimensionsSmall c.dimensions → count c ≤ 64 → length (bounds_lines c x) ≤ 5632 → length (queue_lines c x) ≤ 2112 → length (plan_text c x) ≤ 8192
plan_short c x d few flows routers =
    let first = torus_short c.dimensions d in
    let last = admitted_short (count c) (omega arith) in
    let one = torus_line c.dimensions in
    let two = one ++ bounds_lines c x in
    let three = two ++ queue_lines c x in
    omega (arith, length-append three (admitted_line (count c)), length-append two (queue_lines c x), length-append one (bounds_lines c x))
