-- Which calls belong to which stage.
use Rattle.std.specs.Prelude.{Ok, Err, Result}
use Rattle.records.specs.declared.refusal.Refusal.{Refusal}
use Rattle.records.specs.declared.refusal.Refusal.TheVariants.{Sealed, StillOpen}
use Rattle.records.specs.declared.stage.Call.{Call}
use Rattle.records.specs.declared.stage.Call.TheVariants.{AddNode, AddEdge, Disable, Seal, SetVisibility, TopoAnalysis, ToVisible, Listing}
use Rattle.records.specs.declared.stage.Stage.{Stage}
use Rattle.records.specs.declared.stage.Stage.TheVariants as stage

abbrev pub of_open : Stage → Result (Unit {0}) Refusal
of_open stage.Open = Ok tt
of_open stage.Sealed = Err Sealed

abbrev pub of_sealed : Stage → Result (Unit {0}) Refusal
of_sealed stage.Open = Err StillOpen
of_sealed stage.Sealed = Ok tt

-- adding, disabling and sealing belong to an open graph, all later calls to a sealed one
abbrev pub admission : Stage → Call → Result (Unit {0}) Refusal
admission s AddNode = of_open s
admission s AddEdge = of_open s
admission s Disable = of_open s
admission s Seal = of_open s
admission s SetVisibility = of_sealed s
admission s TopoAnalysis = of_sealed s
admission s ToVisible = of_sealed s
admission s Listing = of_sealed s
