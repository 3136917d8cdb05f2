-- Going forward in a sheet.
use Rattle.std.specs.Prelude.{◌≡◌, ℕ, ◌+◌, List, drop}
use Rattle.sheet.specs.declared.reader.Reader.{Reader}

-- the bytes that are still to be read
abbrev pub rest : Reader → List ℕ
rest r = drop r.at r.bytes.now

-- the same sheet, n bytes further on
pub record Advances (n : ℕ) (old new : Reader) : Type 0 where
  pub bytes : new.bytes ≡ old.bytes
  pub at : new.at ≡ old.at + n
