-- A state, a kind or a number that is written in bytes is read as it was, and bytes that are read are what is written of it.
use Rattle.std.proofs.Common.{◌≡◌, ℕ, ◌+◌, ◌*◌, ◌/◌, ◌%◌, ◌^◌, ◌<◌, List, [], ◌∷◌, ◌++◌, Some, refl, arith, rules}
use Rattle.std.proofs.lemmas.Bool.Decides.{nat_tests}
use Rattle.records.specs.declared.node.NodeKind.{NodeKind}
use Rattle.records.specs.declared.node.NodeKind.TheVariants.{Instantiation, ENode, GivenEquality, TransEquality, Proof, Cdcl}
use Rattle.records.specs.declared.node.NodeState.{NodeState}
use Rattle.records.specs.declared.node.NodeState.TheVariants.{Disabled, Hidden, Visible}
use Rattle.records.specs.Nodes.{state_of, kind_of}
use Rattle.sheet.specs.Bytes.{word, long}
use Rattle.records.specs.Nodes.{kind_number}
use Rattle.sheet.specs.Encoding.{state_byte, two, four}

pub state_back : (s : NodeState) → state_of (state_byte s) ≡ Some s
state_back Disabled = refl
state_back Hidden = refl
state_back Visible = refl

pub kind_back : (k : NodeKind) → kind_of (kind_number k) ≡ Some k
kind_back Instantiation = refl
kind_back ENode = refl
kind_back GivenEquality = refl
kind_back TransEquality = refl
kind_back Proof = refl
kind_back Cdcl = refl

pub two_back : (n : ℕ) (post : List ℕ) → word (two n ++ post) 0 ≡ n
two_back n post = omega arith

pub four_back : (n : ℕ) (post : List ℕ) → n < 2 ^ 32 → long (four n ++ post) 0 ≡ n
four_back n post h = omega arith

pub state_same : (a : ℕ) (s : NodeState) → state_of a ≡ Some s → a ≡ state_byte s
state_same a Disabled h = search (rules, nat_tests)
state_same a Hidden h = search (rules, nat_tests)
state_same a Visible h = search (rules, nat_tests)

pub kind_same : (a : ℕ) (k : NodeKind) → kind_of a ≡ Some k → a ≡ kind_number k
kind_same a Instantiation h = search (rules, nat_tests)
kind_same a ENode h = search (rules, nat_tests)
kind_same a GivenEquality h = search (rules, nat_tests)
kind_same a TransEquality h = search (rules, nat_tests)
kind_same a Proof h = search (rules, nat_tests)
kind_same a Cdcl h = search (rules, nat_tests)

pub two_same : (a b : ℕ) → a < 256 → b < 256 → two (a * 256 + b) ≡ a ∷ b ∷ []
two_same a b p q =
    let x : (a * 256 + b) / 256 ≡ a = omega arith in
    let y : (a * 256 + b) % 256 ≡ b = omega arith in
    cc

pub four_same : (a b c d : ℕ) → a < 256 → b < 256 → c < 256 → d < 256 → four (a * 16777216 + b * 65536 + c * 256 + d) ≡ a ∷ b ∷ c ∷ d ∷ []
four_same a b c d p q r s =
    let n = a * 16777216 + b * 65536 + c * 256 + d in
    let x : n / 16777216 ≡ a = omega arith in
    let y : n / 65536 % 256 ≡ b = omega arith in
    let z : n / 256 % 256 ≡ c = omega arith in
    let w : n % 256 ≡ d = omega arith in
    cc
