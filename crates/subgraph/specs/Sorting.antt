-- The topological search over the edges, which are given in the order of adding.
use Rattle.std.specs.Prelude.{ℕ, Bool, false, List, slice_index_or}
use Rattle.std.specs.List.{list_all}
use Rattle.records.specs.declared.edge.Edge.{Edge}
use Rattle.walks.specs.Exploring.{targets, sources, stacked, Trail, searched}

-- each of a list is marked
abbrev pub all_in : List ℕ → List Bool → Bool
all_in xs v = list_all (λ x. slice_index_or v x false) xs

-- each source of a node is appended
abbrev pub is_ready : List Edge → List Bool → ℕ → Bool
is_ready es appended m = all_in (sources es m) appended

-- of a list of nodes those that are ready, put onto a stack in turn
abbrev pub ready : List Edge → List ℕ → List Bool → List ℕ → List ℕ
ready es ms appended stack = stacked (is_ready es appended) ms stack

-- pop; if new, append; push each target that is ready
abbrev pub sorted : List Edge → ℕ → List ℕ → List Bool → List ℕ → Trail
sorted es k stack appended order = searched (is_ready es) (targets es) k stack appended order
