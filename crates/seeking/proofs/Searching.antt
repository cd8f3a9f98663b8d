-- The search: it begins, goes on and ends; the first goal that it meets has the word sought, and where it ends without one no word leads to a goal.
use mathlib.Core.Path.{◌≡◌, refl, sym, ap, subst, subst₂, ◌∙◌}
use mathlib.Core.Logic.{◌⊎◌, inl, inr, ⊎_elim}
use mathlib.Core.List.{List, [], ◌∷◌, ◌++◌, append_assoc}
use Prim.Native.Nat.{ℕ, zero, suc, ◌+◌, ◌*◌, ◌≤◌, ◌<◌}
use native.Mathlib.Decide.{ℕ_discrete}
use native.Mathlib.Omega.{arith}
use Rattle.automaton.specs.Words.{Word}
use Rattle.automaton.proofs.Walks.{word_append}
use Rattle.seeking.specs.Order.{number, walk, Leads}
use Rattle.seeking.specs.Search.{word_in, word_of, Open, Search, Covered}
use Rattle.seeking.proofs.Numbers.{walk-append, number_append, sign_rises, number_rises, number_grows, leads-least}
use Rattle.seeking.proofs.Backwards.{word_step, word_signs, word_same, earlier_more, word_more}

module _ {A : Type 0} (step : A → ℕ → A) (Goal : A → Type 0) (k : ℕ) (root : A) where
  -- the root alone, which is no goal
  pub search_begins : (from by : ℕ → ℕ) → ¬ Goal root → Search step Goal k root from by 1 0 0
  unfolding walk word_in
  search_begins from by none = record {
    some = omega arith;
    earlier = λ i l. absurd (omega arith);
    signs = λ i l. absurd (omega arith);
    past = λ i l. absurd (omega arith);
    rise = λ i j l m. absurd (omega arith);
    waits = elim [
      | [] ↦ λ w g. absurd (none g)
      | b ∷ u ↦ λ w g. record { node = 0; by_sign = b; rest = u; listed = omega arith; ahead = inr (refl, omega arith); word = w; goal = g; not-later = omega arith }
    ];
  }

  module _ (from by : ℕ → ℕ) (len head : ℕ) where
    -- after the last sign of a node comes the first of the next
    pub search_turns : Search step Goal k root from by len head k → Search step Goal k root from by len (suc head) 0
    search_turns s = record {
      some = s.some;
      earlier = s.earlier;
      signs = s.signs;
      past = λ i l. inl (⊎_elim (λ h. omega arith) (λ h. omega (arith, h.0)) (s.past i l));
      rise = s.rise;
      waits = λ v w g.
          let o = s.waits v w g in
          record {
            node = o.node;
            by_sign = o.by_sign;
            rest = o.rest;
            listed = o.listed;
            ahead = ⊎_elim (λ h. after o.node o.by_sign h) (λ h. absurd (omega (arith, h.1, o.word.0))) o.ahead;
            word = o.word;
            goal = o.goal;
            not-later = o.not-later;
          };
    }
      where
        after : (j b : ℕ) → head < j → (suc head < j) ⊎ ((suc head ≡ j) × (0 ≤ b))
        after j b h = elim (ℕ_discrete (suc head) j) [ yes e ↦ inr (e, omega arith) | no d ↦ inl (omega arith) ]

  -- the record looks at the list alone
  pub search_same : (from by from' by' : ℕ → ℕ) (len head sign : ℕ) → ((i : ℕ) → i < len → (from i ≡ from' i) × (by i ≡ by' i))
      → Search step Goal k root from by len head sign
      → Search step Goal k root from' by' len head sign
  search_same from by from' by' len head sign e s = record {
    some = s.some;
    earlier = λ i l. rw (← (e (suc i) l).0) (s.earlier i l);
    signs = λ i l. rw (← (e (suc i) l).1) (s.signs i l);
    past = λ i l. rw (← (e (suc i) l).0, ← (e (suc i) l).1) (s.past i l);
    rise = λ i j h l. rw (← (words i (omega arith)), ← (words j l)) (s.rise i j h l);
    waits = λ v w g.
        let o = s.waits v w g in
        record {
          node = o.node;
          by_sign = o.by_sign;
          rest = o.rest;
          listed = o.listed;
          ahead = o.ahead;
          word = o.word;
          goal = rw (← (words o.node o.listed)) o.goal;
          not-later = rw (← (words o.node o.listed)) o.not-later;
        };
  }
    where
      words : (i : ℕ) → i < len → word_of from by i ≡ word_of from' by' i
      words = word_same from by len s.earlier from' by' e

  module _ (from by : ℕ → ℕ) (len head sign : ℕ) (s : Search step Goal k root from by len head sign) where
    -- at the end of the list nothing waits
    pub search_ends : len ≤ head → (v : List ℕ) → Word k v → ¬ Goal (walk step root v)
    search_ends h v w g =
        let o = s.waits v w g in
        ⊎_elim (λ l. omega (arith, l, o.listed)) (λ e. omega (arith, e.0, o.listed)) o.ahead

    module _ (listed : head < len) (in-signs : sign < k) where
      -- where the search stands: the node, what the sign leads to, its word, and the number of a node's word
      abbrev here : A
      here = walk step root (word_of from by head)

      abbrev word : List ℕ
      word = word_of from by head ++ sign ∷ []

      abbrev N : ℕ → ℕ
      N i = number k 0 (word_of from by i)

      number_sign : (w : List ℕ) (a : ℕ) → number k 0 (w ++ a ∷ []) ≡ suc (number k 0 w * k + a)
      unfolding number
      number_sign w a = number_append k 0 w (a ∷ [])

      -- the words of the list are earlier than the one that the search stands at
      later : (j : ℕ) → j < len → N j < number k 0 word
      unfolding word_in number
      later zero l = omega (arith, number_sign (word_of from by head) sign)
      later (suc i) l =
          let e : word_of from by (suc i) ≡ word_of from by (from (suc i)) ++ by (suc i) ∷ [] = word_step from by len s.earlier (suc i) (omega arith) l in
          rw (e, number_sign (word_of from by (from (suc i))) (by (suc i)), number_sign (word_of from by head) sign)
          (⊎_elim
          (λ h. sign_rises k (N (from (suc i))) (N head) (by (suc i)) sign (s.rise (from (suc i)) head h listed) (s.signs i l))
          (λ h. rw h.0 (omega (arith, h.1)))
          (s.past i l))

      -- a word that goes on from here by the sign goes on from what the sign leads to
      on : (u : List ℕ) → walk step root (word_of from by head ++ sign ∷ u) ≡ walk step (step here sign) u
      unfolding walk
      on u = walk-append step root (word_of from by head) (sign ∷ u)

      on_number : (u : List ℕ) → number k 0 (word_of from by head ++ sign ∷ u) ≡ number k (number k 0 word) u
      unfolding number
      on_number u = rw (number_append k 0 (word_of from by head) (sign ∷ u), number_append k 0 (word_of from by head) (sign ∷ []))

      -- what waits is here, at the sign, or further on
      where_waits : (v : List ℕ) (o : Open step Goal k root from by len head sign v)
          → ((head < o.node) ⊎ ((head ≡ o.node) × (suc sign ≤ o.by_sign))) ⊎ ((head ≡ o.node) × (sign ≡ o.by_sign))
      where_waits v o =
          ⊎_elim
          (λ h. inl (inl h))
          (λ h. elim (ℕ_discrete sign o.by_sign) [ yes e ↦ inr (h.0, e) | no d ↦ inl (inr (h.0, omega (arith, h.1))) ])
          o.ahead

      -- what waits here goes on from what the sign leads to
      waits_here : (v : List ℕ) (o : Open step Goal k root from by len head sign v) → head ≡ o.node → sign ≡ o.by_sign
          → Goal (walk step (step here sign) o.rest) × (number k (number k 0 word) o.rest ≤ number k 0 v)
      waits_here v o e f = (
        subst Goal (on o.rest) (subst₂ (λ (i a : ℕ). Goal (walk step root (word_of from by i ++ a ∷ o.rest))) (sym e) (sym f) o.goal),
        rw (← (on_number o.rest)) (subst₂ (λ (i a : ℕ). number k 0 (word_of from by i ++ a ∷ o.rest) ≤ number k 0 v) (sym e) (sym f) o.not-later),
      )

      -- what the sign leads to is a goal: its word is the one sought
      pub search_finds : Goal (step here sign) → Leads step Goal k root word
      unfolding walk number
      search_finds g =
          leads-least step Goal k root word
          (word_append k (word_of from by head) (sign ∷ []) (word_signs from by len s.earlier k s.signs head listed) (in-signs, tt))
          (rw (on []) g)
          (λ v w h. least (s.waits v w h))
        where
          least : {v : List ℕ} → Open step Goal k root from by len head sign v → number k 0 word ≤ number k 0 v
          least o =
              let grows : suc (N o.node * k + o.by_sign) ≤ number k 0 (word_of from by o.node ++ o.by_sign ∷ o.rest) =
              rw (number_append k 0 (word_of from by o.node) (o.by_sign ∷ o.rest)) (number_grows k (suc (N o.node * k + o.by_sign)) o.rest o.word.1) in
              rw (number_sign (word_of from by head) sign)
              (⊎_elim
              (λ h. omega (arith, grows, o.not-later, sign_rises k (N head) (N o.node) sign o.by_sign (s.rise head o.node h o.listed) in-signs))
              (λ h. rw h.0 (omega (arith, grows, o.not-later, h.1)))
              o.ahead)

      -- what the sign leads to is covered: the search goes on to the next sign
      pub search_covers : Covered step Goal k root from by len (step here sign) → Search step Goal k root from by len head (suc sign)
      search_covers c = record {
        some = s.some;
        earlier = s.earlier;
        signs = s.signs;
        past = λ i l. ⊎_elim (λ h. inl h) (λ h. inr (h.0, omega (arith, h.1))) (s.past i l);
        rise = s.rise;
        waits = λ v w g. go (suc (number k 0 v)) v (omega arith) w g;
      }
        where
          no_later : {u v : List ℕ} → number k 0 u < number k 0 v → Open step Goal k root from by len head (suc sign) u → Open step Goal k root from by len head (suc sign) v
          no_later h o = record { node = o.node; by_sign = o.by_sign; rest = o.rest; listed = o.listed; ahead = o.ahead; word = o.word; goal = o.goal; not-later = omega (arith, o.not-later, h) }

          go : (m : ℕ) (v : List ℕ) → number k 0 v < m → Word k v → Goal (walk step root v) → Open step Goal k root from by len head (suc sign) v
          go zero v l w g = absurd (omega arith)
          go (suc m) v l w g =
              let o = s.waits v w g in
              elim (where_waits v o) [
                | inl h ↦ record { node = o.node; by_sign = o.by_sign; rest = o.rest; listed = o.listed; ahead = h; word = o.word; goal = o.goal; not-later = o.not-later }
                | inr h ↦
                    let (goal, most) = waits_here v o h.0 h.1 in
                    let (j, j-in, reached) = c.node o.rest o.word.1 goal in
                    let u : List ℕ = word_of from by j ++ o.rest in
                    let less : number k 0 u < number k 0 v =
                    rw (number_append k 0 (word_of from by j) o.rest) (omega (arith, number_rises k (N j) (number k 0 word) o.rest o.rest (later j j-in) refl o.word.1)) in
                    no_later less
                    (go m u (omega arith) (word_append k (word_of from by j) o.rest (word_signs from by len s.earlier k s.signs j j-in) o.word.1)
                    (rw (walk-append step root (word_of from by j) o.rest) reached))
              ]

      -- what the sign leads to is listed and no goal: the search goes on to the next sign
      pub search_lists : from len ≡ head → by len ≡ sign → ¬ Goal (step here sign) → Search step Goal k root from by (suc len) head (suc sign)
      unfolding walk
      search_lists e f none = record {
        some = omega arith;
        earlier = earlier_more from by len s.earlier head sign e f listed;
        signs = λ i l. elim (ℕ_discrete (suc i) len) [ yes h ↦ rw (h, f) in-signs | no h ↦ s.signs i (omega arith) ];
        past = λ i l.
            elim (ℕ_discrete (suc i) len) [
              | yes h ↦ inr (ap from h ∙ e, omega (arith, ap by h, f))
              | no h ↦ ⊎_elim (λ m. inl m) (λ m. inr (m.0, omega (arith, m.1))) (s.past i (omega arith))
            ];
        rise = λ i j h l.
            elim (ℕ_discrete j len) [
              | yes m ↦ rw (m, own) (later i (omega arith))
              | no m ↦ s.rise i j h (omega arith)
            ];
        waits = λ v w g. still v (s.waits v w g);
      }
        where
          own : word_of from by len ≡ word
          own = word_more from by len head sign s.earlier e f listed

          on_own : (u : List ℕ) → walk step root (word_of from by len ++ u) ≡ walk step (step here sign) u
          on_own u = rw (own, append_assoc (word_of from by head) (sign ∷ []) u) (on u)

          goes_on : (v u : List ℕ) → Word k u → Goal (walk step (step here sign) u) → number k (number k 0 word) u ≤ number k 0 v → Open step Goal k root from by (suc len) head (suc sign) v
          goes_on v [] w g h = absurd (none g)
          goes_on v (b ∷ u) w g h = record {
            node = len;
            by_sign = b;
            rest = u;
            listed = omega arith;
            ahead = inl listed;
            word = w;
            goal = rw (on_own (b ∷ u)) g;
            not-later = rw (number_append k 0 (word_of from by len) (b ∷ u), own) h;
          }

          still : (v : List ℕ) → Open step Goal k root from by len head sign v → Open step Goal k root from by (suc len) head (suc sign) v
          still v o =
              elim (where_waits v o) [
                | inl h ↦ record { node = o.node; by_sign = o.by_sign; rest = o.rest; listed = omega (arith, o.listed); ahead = h; word = o.word; goal = o.goal; not-later = o.not-later }
                | inr h ↦ let (goal, most) = waits_here v o h.0 h.1 in goes_on v o.rest o.word.1 goal most
              ]
