-- What a text says.
use Rattle.std.specs.Prelude.{ℕ, List, take}
use Rattle.text.specs.declared.buffer.Text.{Text}

abbrev pub said : Text → List ℕ
said t = take t.len t.bytes
