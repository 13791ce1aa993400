use Rattle.std.proofs.Common.{◌≡◌, take}
use Rattle.std.specs.List.{flat_map}
use Rattle.table.specs.Format.{flow_record}
use Rattle.table.specs.Writing.{put_at}
use Rattle.table.proofs.writing.put_flows.Given as goal

abbrev pub invariant-loop-i : goal.invariant-loop-i
invariant-loop-i l = l.place ≡ put_at 8 (flat_map flow_record (take l.i l.flows)) l.initial.place
