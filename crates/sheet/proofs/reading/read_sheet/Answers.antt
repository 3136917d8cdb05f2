use Rattle.std.proofs.Common.{◌≡◌, rules}
use Rattle.graph.specs.Model.{model}
use Rattle.sheet.specs.Reading.{sheet_read, answered, left}
use Rattle.sheet.proofs.Outcomes.{bytes_fit, exact_so, whole_so}
use Rattle.sheet.proofs.reading.read_sheet.Goals as goal

pub returns-then-is_err : goal.returns-then-is_err
returns-then-is_err c =
    let bs = c.args.bytes.now in
    let r = c.take_sheet-read.result in
    let m = model c.new-then-is_err.result in
    let a : r ≡ answered (sheet_read bs) = search rules in
    let f : m ≡ left (sheet_read bs) = search rules in
    record { answer = a; after = f; exact = exact_so bs r m a f (bytes_fit bs c.type_inv.bytes); whole = whole_so bs r m a f }

pub returns-else-is_err : goal.returns-else-is_err
returns-else-is_err c =
    let bs = c.args.bytes.now in
    let r = c.take_sheet-read.result in
    let m = model c.take_sheet-read.new.graph in
    let a : r ≡ answered (sheet_read bs) = search rules in
    let f : m ≡ left (sheet_read bs) = search rules in
    record { answer = a; after = f; exact = exact_so bs r m a f (bytes_fit bs c.type_inv.bytes); whole = whole_so bs r m a f }
