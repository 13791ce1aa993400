use Rattle.std.proofs.Common.{sym, ◌∙◌, subst, w64, SFits, rules}
use Rattle.std.proofs.lemmas.Int.{to_z-of_z}
use Rattle.facade_c.specs.Told.{Told}
use Rattle.facade_c.proofs.Codes.{told}
use Rattle.facade_c.proofs.pulgarv_admit.Goals as goal

pub returns : goal.returns
returns c =
    let fits : SFits w64 c.code.result = search rules in
    let same = to_z-of_z w64 c.code.result fits ∙ c.code.ensures in
    subst (Told c.args.table.now c.args.place.now c.list.new.place) (sym same) (told _ _ _ _ c.list.ensures)
