-- Walks put end to end.
use Rattle.std.proofs.Common.{ℕ, ◌<◌, List, [], ◌∷◌, ◌++◌, arith}
use Rattle.records.specs.Walks.{Walk, Leads}

module _ (R : ℕ → ℕ → Type 0) where
  pub snoc : (a : ℕ) (ms : List ℕ) (b c : ℕ) → Walk R a ms b → R b c → Walk R a (ms ++ (b ∷ [])) c
  snoc a [] b c w r = (w, r)
  snoc a (m ∷ ms) b c w r = (w.0, snoc m ms b c w.1 r)

  pub append : (a : ℕ) (ms : List ℕ) (b : ℕ) (ns : List ℕ) (c : ℕ) → Walk R a ms b → Walk R b ns c → Walk R a (ms ++ (b ∷ ns)) c
  append a [] b ns c w r = (w, r)
  append a (m ∷ ms) b ns c w r = (w.0, append m ms b ns c w.1 r)

  pub leads_trans : (a b c : ℕ) → Leads R a b → Leads R b c → Leads R a c
  leads_trans a b c p q = (p.0 ++ (b ∷ q.0), append a p.0 b q.0 c p.1 q.1)

  -- what a step keeps, a walk keeps
  pub leads_rank : (rank : ℕ → ℕ) → ((a b : ℕ) → R a b → rank a < rank b) → (a : ℕ) (ms : List ℕ) (b : ℕ) → Walk R a ms b → rank a < rank b
  leads_rank rank up a [] b w = up a b w
  leads_rank rank up a (m ∷ ms) b w =
      let h : rank a < rank m = up a m w.0 in
      let k : rank m < rank b = leads_rank rank up m ms b w.1 in
      omega arith

-- a walk of steps that each lead on by S leads on by S
pub leads_map : (R S : ℕ → ℕ → Type 0) → ((a b : ℕ) → R a b → Leads S a b) → (a : ℕ) (ms : List ℕ) (b : ℕ) → Walk R a ms b → Leads S a b
leads_map R S f a [] b w = f a b w
leads_map R S f a (m ∷ ms) b w = leads_trans S a m b (f a m w.0) (leads_map R S f m ms b w.1)
