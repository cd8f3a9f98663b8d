-- Theorems (g), (h), (i): over any connected, collapsed machine, no equivalent machine has fewer states, and two such are one up to the order of rows;
-- so the quotient is smallest, and is its own quotient.
use mathlib.Core.Path.{◌≡◌, refl, sym, ap, subst, subst₂, ◌∙◌}
use mathlib.Core.List.{List, [], ◌∷◌, ◌++◌}
use Prim.Native.Nat.{ℕ, ◌≤◌, ◌<◌}
use native.Mathlib.Decide.{dec_lt}
use native.Mathlib.Omega.{arith}
use lib.ListN.{length}
use Rattle.counting.specs.Lists.{at, tab}
use Rattle.counting.specs.Counts.{place}
use Rattle.counting.proofs.Tabs.{tab-length, tab-at}
use Rattle.counting.proofs.Thoses.{place_here}
use Rattle.counting.proofs.Pigeons.{injection_needs_room}
use Rattle.automaton.specs.Machine.{Machine, Lawful, Agree}
use Rattle.automaton.specs.Words.{Word, steps, Same, Equivalent, Reached}
use Rattle.automaton.specs.Layers.{classes}
use Rattle.automaton.specs.Quotient.{rows, quotient, Connected, Collapsed, Isomorphic}
use Rattle.automaton.proofs.Walks.{steps-append, word_append, steps_in, agree_sym, agree_reached, agree_same}
use Rattle.automaton.proofs.Rowlists.{rows_of, rows_all, classes_collapsed}
use Rattle.automaton.proofs.Quotients.{quotient_lawful, quotient_equivalent, quotient_connected, quotient_collapsed}

pub equivalent_sym : {M N : Machine} → Equivalent M N → Equivalent N M
equivalent_sym e = record { signs = sym e.signs; word = λ w h. sym (e.word w (subst (λ (k : ℕ). Word k w) (sym e.signs) h)) }

pub equivalent_trans : {M N O : Machine} → Equivalent M N → Equivalent N O → Equivalent M O
equivalent_trans e f = record { signs = e.signs ∙ f.signs; word = λ w h. e.word w h ∙ f.word w (subst (λ (k : ℕ). Word k w) e.signs h) }

-- words that lead the two machines to one state of the second lead to states of the first that are the same
meets : (Q N : Machine) → Equivalent Q N → (v w : List ℕ) → Word Q.signs v → Word Q.signs w
    → steps N N.start v ≡ steps N N.start w → Same Q (steps Q Q.start v) (steps Q Q.start w)
meets Q N e v w h k m = record {
  word = λ u l.
      sym (ap Q.kind (steps-append Q Q.start v u))
      ∙ e.word (v ++ u) (word_append Q.signs v u h l)
      ∙ ap N.kind (steps-append N N.start v u ∙ ap (λ (q : ℕ). steps N q u) m ∙ sym (steps-append N N.start w u))
      ∙ sym (e.word (w ++ u) (word_append Q.signs w u k l))
      ∙ ap Q.kind (steps-append Q Q.start w u);
}

-- the state of the second machine that a word leads to which leads the first to its state
follow : (Q N : Machine) → Connected Q → ℕ → ℕ
follow Q N c q = elim (dec_lt q Q.size) [ yes l ↦ steps N N.start (c q l).by | no u ↦ 0 ]

follows : (Q N : Machine) (c : Connected Q) (q : ℕ) → q < Q.size → (r : Reached Q q) × (follow Q N c q ≡ steps N N.start r.by)
unfolding follow
follows Q N c q l =
    elim (dec_lt q Q.size) as (λ d. (r : Reached Q q) × ((elim d as (λ x. ℕ) [ yes l ↦ steps N N.start (c q l).by | no u ↦ 0 ]) ≡ steps N N.start r.by)) [
      | yes m ↦ (c q m, refl)
      | no u ↦ absurd (u l)
    ]

module _ (Q N : Machine) (c : Connected Q) (lawful : Lawful N) (e : Equivalent Q N) where
  over : (w : List ℕ) → Word Q.signs w → Word N.signs w
  over w h = subst (λ (k : ℕ). Word k w) e.signs h

  follow_in : (q : ℕ) → q < Q.size → follow Q N c q < N.size
  follow_in q l =
      let (r, f) = follows Q N c q l in
      rw f (steps_in N lawful N.start r.by lawful.start-in (over r.by r.word))

  follow_one : Collapsed Q → (p q : ℕ) → p < Q.size → q < Q.size → follow Q N c p ≡ follow Q N c q → p ≡ q
  follow_one d p q l m h =
      let (r, f) = follows Q N c p l in
      let (s, g) = follows Q N c q m in
      d p q l m (subst₂ (Same Q) r.leads s.leads (meets Q N e r.by s.by r.word s.word (sym f ∙ h ∙ g)))

  -- where the second is collapsed, a word leads both to states that follow one another
  follow_steps : Collapsed N → Lawful Q → (v : List ℕ) → Word Q.signs v → follow Q N c (steps Q Q.start v) ≡ steps N N.start v
  follow_steps d lq v h =
      let l : steps Q Q.start v < Q.size = steps_in Q lq Q.start v lq.start-in h in
      let (r, f) = follows Q N c (steps Q Q.start v) l in
      f
      ∙ d (steps N N.start r.by) (steps N N.start v) (steps_in N lawful N.start r.by lawful.start-in (over r.by r.word)) (steps_in N lawful N.start v lawful.start-in (over v h))
      (meets N Q (equivalent_sym e) r.by v (over r.by r.word) (over v h) r.leads)

-- (g), over any connected and collapsed machine
pub fewest : (Q N : Machine) → Connected Q → Collapsed Q → Lawful N → Equivalent Q N → Q.size ≤ N.size
fewest Q N c d lawful e = injection_needs_room Q.size N.size (follow Q N c) (follow_in Q N c lawful e) (follow_one Q N c lawful e d)

-- followed there and back
back : (Q N : Machine) → Lawful Q → Lawful N → (c : Connected Q) → Collapsed Q → (k : Connected N) → Collapsed N → Equivalent Q N → (q : ℕ) → q < Q.size → follow N Q k (follow Q N c q) ≡ q
back Q N lq ln c d k f e q l =
    let r : Reached Q q = c q l in
    ap (λ (x : ℕ). follow N Q k (follow Q N c x)) (sym r.leads)
    ∙ ap (follow N Q k) (follow_steps Q N c ln e f lq r.by r.word)
    ∙ follow_steps N Q k lq (equivalent_sym e) d ln r.by (over Q N c ln e r.by r.word)
    ∙ r.leads

-- (i), over any two
pub one_machine : (Q N : Machine) → Lawful Q → Lawful N → Connected Q → Collapsed Q → Connected N → Collapsed N → Equivalent Q N → Isomorphic Q N
unfolding steps
one_machine Q N lq ln cq dq cn dn e = record {
  to = to;
  from = follow N Q cn;
  to_in = follow_in Q N cq ln e;
  from_in = follow_in N Q cn lq (equivalent_sym e);
  from_to = back Q N lq ln cq dq cn dn e;
  to_from = back N Q ln lq cn dn cq dq (equivalent_sym e);
  start = along [] tt;
  next = λ q a l m.
      let r : Reached Q q = cq q l in
      let v : List ℕ = r.by ++ (a ∷ []) in
      let h : Word Q.signs v = word_append Q.signs r.by (a ∷ []) r.word (m, tt) in
      ap (λ (x : ℕ). to (Q.next x a)) (sym r.leads)
      ∙ ap to (sym (steps-append Q Q.start r.by (a ∷ [])))
      ∙ along v h
      ∙ steps-append N N.start r.by (a ∷ [])
      ∙ ap (λ (x : ℕ). N.next x a) (sym (along r.by r.word) ∙ ap to r.leads);
  kind = λ q l.
      let r : Reached Q q = cq q l in
      ap Q.kind (sym r.leads) ∙ e.word r.by r.word ∙ ap N.kind (sym (along r.by r.word) ∙ ap to r.leads);
}
  where
    to : ℕ → ℕ
    to = follow Q N cq

    along : (v : List ℕ) → Word Q.signs v → to (steps Q Q.start v) ≡ steps N N.start v
    along = follow_steps Q N cq ln e dn lq

-- where every state is reached and alone in its class, the quotient is the machine
own_quotient : (Q : Machine) → Lawful Q → Connected Q → Collapsed Q → Agree (quotient Q) Q
own_quotient Q lawful c d = record {
  size = size;
  signs = refl;
  start = ap (place (rows Q)) (classes_collapsed Q lawful d Q.start lawful.start-in) ∙ own Q.start lawful.start-in;
  next = λ i a l m.
      let k : i < Q.size = omega (arith, size) in
      let n : Q.next i a < Q.size = lawful.next_in i a k m in
      ap (λ (x : ℕ). place (rows Q) (at (classes Q) (Q.next x a))) (here i k)
      ∙ ap (place (rows Q)) (classes_collapsed Q lawful d (Q.next i a) n)
      ∙ own (Q.next i a) n;
  kind = λ i l. ap Q.kind (here i (omega (arith, size)));
}
  where
    all : rows Q ≡ tab Q.size (λ q. q)
    all = rows_all Q lawful c d

    size : length (rows Q) ≡ Q.size
    size = ap length all ∙ tab-length Q.size (λ q. q)

    here : (i : ℕ) → i < Q.size → at (rows Q) i ≡ i
    here i l = ap (λ (rs : List ℕ). at rs i) all ∙ tab-at Q.size (λ q. q) 0 i l

    own : (q : ℕ) → q < Q.size → place (rows Q) q ≡ q
    own q l =
        let (k, e) = place_here (rows Q) q (omega (arith, size)) in
        let f : place (rows Q) (at (rows Q) q) ≡ place (rows Q) q = ap (place (rows Q)) (here q l) in
        sym f ∙ sym (here (place (rows Q) (at (rows Q) q)) (omega (arith, size))) ∙ e ∙ here q l

module _ (M : Machine) (lawful : Lawful M) where
  abbrev Q : Machine
  Q = quotient M

  lawful_quotient : Lawful Q
  lawful_quotient = quotient_lawful M lawful (rows M) (rows_of M lawful)

  connected : Connected Q
  connected = quotient_connected M lawful (rows M) (rows_of M lawful)

  collapsed : Collapsed Q
  collapsed = quotient_collapsed M lawful (rows M) (rows_of M lawful)

  equivalent : Equivalent M Q
  equivalent = quotient_equivalent M lawful (rows M) (rows_of M lawful)

  -- (g) of the quotient: no machine over the same signs with the same kinds for all words has fewer rows
  pub quotient_fewest : (N : Machine) → Lawful N → Equivalent M N → length (rows M) ≤ N.size
  quotient_fewest N l e = fewest Q N connected collapsed l (equivalent_trans (equivalent_sym equivalent) e)

  -- (h)
  pub quotient_again : Agree (quotient (quotient M)) (quotient M)
  quotient_again = own_quotient Q lawful_quotient connected collapsed

  -- (h) of a machine that agrees with the quotient
  pub agreed_again : (N : Machine) → Lawful N → Agree N (quotient M) → Agree (quotient N) N
  agreed_again N l a =
      own_quotient N l (λ q h. agree_reached Q N lawful_quotient (agree_sym a) q (connected q (omega (arith, a.size))))
      (λ p q h k s. collapsed p q (omega (arith, a.size)) (omega (arith, a.size)) (agree_same N Q l a p q h k s))

-- (i) of the quotients
pub quotients_one : (M N : Machine) → Lawful M → Lawful N → Equivalent M N → Isomorphic (quotient M) (quotient N)
quotients_one M N l m e =
    one_machine (quotient M) (quotient N) (lawful_quotient M l) (lawful_quotient N m) (connected M l) (collapsed M l) (connected N m) (collapsed N m)
    (equivalent_trans (equivalent_sym (equivalent M l)) (equivalent_trans e (equivalent N m)))
