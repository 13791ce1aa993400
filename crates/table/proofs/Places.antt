-- One put after another.
use Rattle.std.proofs.Common.{◌≡◌, ℕ, ◌+◌, ◌*◌, ◌<◌, ◌≤◌, List, [], ◌++◌, length, get_or, take, drop, sym, refl, ap, ◌∙◌, append_assoc, add_assoc, zero-add, arith}
use Rattle.std.proofs.lemmas.Grind.{common_steps}
use Rattle.std.specs.List.{flat_map}
use Rattle.std.proofs.lemmas.List.{length-append, take_at, drop_at, drop-drop, take_more, flat_map_more}
use Rattle.table.specs.declared.flow.Flow.{Flow}
use Rattle.table.specs.Content.{Content}
use Rattle.table.specs.Format.{head_record, flow_record, end_record, front, encode}
use Rattle.table.specs.Writing.{put_at, over}
use Rattle.table.proofs.Prefixes.{length_flows, length_front}

pub put_put : (at n : ℕ) (s t d : List ℕ) → n ≡ at + length s → n + length t ≤ length d → put_at n t (put_at at s d) ≡ put_at at (s ++ t) d
put_put at n s t d e h =
    let within : at ≤ length d = omega arith in
    let long : length (take at d ++ s) ≡ n = grind (arith, common_steps) in
    let front : take n (put_at at s d) ≡ take at d ++ s = rw (← append_assoc) (take_at (take at d ++ s) _ n long) in
    let past : drop n (put_at at s d) ≡ drop n d = rw (← append_assoc, ← e) (drop_at (take at d ++ s) _ n long) in
    let behind : drop (n + length t) (put_at at s d) ≡ drop (at + length (s ++ t)) d =
    rw (← drop-drop (length t) n, past, drop-drop, length-append, e, add_assoc) in
    rw (front, behind) (simp append_assoc)

pub flows_more : (fs : List Flow) (i : ℕ) (d : Flow) → i < length fs → flat_map flow_record (take (i + 1) fs) ≡ flat_map flow_record (take i fs) ++ flow_record (get_or fs i d)
flows_more fs i d h = ap (flat_map flow_record) (take_more fs i d h) ∙ sym (flat_map_more flow_record [] (take i fs) (get_or fs i d))

pub length_encode : (c : Content) → length (encode c) ≡ 14 + 12 * length c.flows
length_encode c = omega (arith, length-append (front c) (end_record (length c.flows)), length_front c)

-- the head, the flows and the end, one after another, are the whole file
pub put_all : (c : Content) (n : ℕ) (d : List ℕ) → n ≡ 8 + 12 * length c.flows → n + 6 ≤ length d → put_at n (end_record (length c.flows)) (put_at 8 (flat_map flow_record c.flows) (put_at 0 (head_record c.dimensions) d)) ≡ over (encode c) d
put_all c n d e h =
    let s = flat_map flow_record c.flows in
    let z = end_record (length c.flows) in
    let long = length_flows c.flows in
    let first : put_at 8 s (put_at 0 (head_record c.dimensions) d) ≡ put_at 0 (front c) d = put_put 0 8 (head_record c.dimensions) s d refl (omega arith) in
    let second : put_at n z (put_at 0 (front c) d) ≡ put_at 0 (encode c) d = put_put 0 n (front c) z d (omega (arith, length_front c)) (omega arith) in
    ap (put_at n z) first ∙ (second ∙ (rw zero-add))
