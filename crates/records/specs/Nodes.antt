-- Nodes by their states.
use Rattle.std.specs.Prelude.{ℕ, Bool, true, false, cond, Some, None, Option, ◌==◌}
use Rattle.records.specs.declared.node.Node.{Node}
use Rattle.records.specs.declared.node.NodeKind.{NodeKind}
use Rattle.records.specs.declared.node.NodeKind.TheVariants.{Instantiation, ENode, GivenEquality, TransEquality, Proof, Cdcl}
use Rattle.records.specs.declared.node.NodeState.{NodeState}
use Rattle.records.specs.declared.node.NodeState.TheVariants.{Disabled, Hidden, Visible}
use Rattle.records.specs.declared.node.Visibility.{Visibility}
use Rattle.records.specs.declared.node.Visibility.TheVariants as visibility

abbrev pub kind_number : NodeKind → ℕ
kind_number Instantiation = 0
kind_number ENode = 1
kind_number GivenEquality = 2
kind_number TransEquality = 3
kind_number Proof = 4
kind_number Cdcl = 5

-- the state and the kind that a byte stands for
abbrev pub state_of : ℕ → Option NodeState
state_of b = cond (b == 0) (Some Disabled) (cond (b == 1) (Some Hidden) (cond (b == 2) (Some Visible) None))

abbrev pub kind_of : ℕ → Option NodeKind
kind_of b =
    cond (b == 0) (Some Instantiation) (cond (b == 1) (Some ENode) (cond (b == 2) (Some GivenEquality)
    (cond (b == 3) (Some TransEquality) (cond (b == 4) (Some Proof) (cond (b == 5) (Some Cdcl) None)))))

abbrev pub same_state : NodeState → NodeState → Bool
same_state Disabled Disabled = true
same_state Disabled Hidden = false
same_state Disabled Visible = false
same_state Hidden Disabled = false
same_state Hidden Hidden = true
same_state Hidden Visible = false
same_state Visible Disabled = false
same_state Visible Hidden = false
same_state Visible Visible = true

abbrev pub is_disabled : Node → Bool
is_disabled n = same_state n.state Disabled

abbrev pub is_hidden : Node → Bool
is_hidden n = same_state n.state Hidden

abbrev pub is_shown : Node → Bool
is_shown n = same_state n.state Visible

-- a node as it is added
abbrev pub fresh : NodeKind → ℕ → Node
fresh kind item = record { state = Hidden; kind = kind; item = item; place = None }

-- the node in another state
abbrev pub in_state : NodeState → Node → Node
in_state s n = record { state = s; kind = n.kind; item = n.item; place = n.place }

-- what stands for a node where there is none
abbrev pub no_node : Node
no_node = record { state = Disabled; kind = Instantiation; item = 0; place = None }

-- the state that is asked for
abbrev pub asked : Visibility → NodeState
asked visibility.Hidden = Hidden
asked visibility.Visible = Visible
