-- Laws of refusals that are listed: one before others, and the file's own before all; of an answer alone, and with the memory that a call leaves.
-- Rests on `refused_exactly`.
use mathlib.Core.Path.{◌≡◌, refl, sym, ap, ap₂, subst, ◌∙◌}
use mathlib.Core.Logic.{◌≢◌, ◌⊎◌, inl, inr, ⊎_elim, ◌↔◌}
use mathlib.Core.Bool.{Bool, true, false, ◌||◌, true≢false}
use mathlib.Core.List.{List}
use Prim.Native.Nat.{ℕ, ◌≤◌, ◌<◌}
use borrow.Author.Tests.{ltb-true, leb-true, lt-ltb, le-leb}
use lib.Dec.{ltb, leb}
use Rattle.counting.specs.Least.{pick}
use Rattle.table.specs.Answers.{Said, gives, refuses, when_given}
use Rattle.table.specs.Judging.{judged}
use Rattle.table.specs.Leaving.{Left, left, on_file, refusing}
use Rattle.table.proofs.Refusals.{refused_exactly}
use Rattle.table.proofs.Leavings.{not_refused, file_refused, file_given}
use Rattle.wylgentip.specs.Demands.{Nothing, Else, OfFile, Refuses}

-- the number and the place of a refusal
abbrev number : Said → ℕ
number (gives vs) = 0
number (refuses m p) = m

abbrev place : Said → ℕ
place (gives vs) = 0
place (refuses m p) = p

same_number : {m p n q : ℕ} → refuses m p ≡ refuses n q → m ≡ n
same_number e = ap number e

same_place : {m p n q : ℕ} → refuses m p ≡ refuses n q → p ≡ q
same_place e = ap place e

-- tests, and the cases that they test
pub less : (a b : ℕ) → (ltb a b ≡ true) ↔ (a < b)
less a b = (ltb-true a b, lt-ltb a b)

pub most : (a b : ℕ) → (leb a b ≡ true) ↔ (a ≤ b)
most a b = (leb-true a b, le-leb a b)

pub either : {A B : Type 0} (s t : Bool) → (s ≡ true) ↔ A → (t ≡ true) ↔ B → ((s || t) ≡ true) ↔ (A ⊎ B)
either true t f g = ((λ e. inl (f.0 refl)), (λ x. refl))
either false t f g = ((λ e. inr (g.0 e)), ⊎_elim (λ a. absurd (true≢false (sym (f.1 a)))) g.1)

-- an answer refuses exactly as listed
abbrev pub Lists : (ℕ → ℕ → Type 0) → Said → Type 0
Lists Listed s = (m p : ℕ) → (s ≡ refuses m p) ↔ Listed m p

pub lists_nothing : (vs : List ℕ) → Lists Nothing (gives vs)
lists_nothing vs m p = ((λ e. not_refused e), (λ x. absurd x))

module _ {After : ℕ → ℕ → Type 0} (s : Said) (k : Lists After s) where
  -- a refusal before others
  pub lists_else : {Case : Type 0} (t : Bool) (n q : ℕ) → (t ≡ true) ↔ Case → Lists (Else Case n q After) (pick t (refuses n q) s)
  unfolding pick
  lists_else true n q f m p =
      ((λ e. inl (f.0 refl, sym (same_number e), sym (same_place e))), ⊎_elim (λ x. ap₂ refuses (sym x.1) (sym x.2)) (λ x. absurd (x.0 (f.0 refl))))
  lists_else false n q f m p =
      ((λ e. inr ((λ x. true≢false (sym (f.1 x))), (k m p).0 e)), ⊎_elim (λ x. absurd (true≢false (sym (f.1 x.0)))) (λ x. (k m p).1 x.1))

  -- the file's own before all
  pub lists_file : (file : List ℕ) → Lists (OfFile file After) (when_given (judged file) s (judged file))
  unfolding when_given
  lists_file file m p = by (judged file) refl
    where
      by : (j : Said) → judged file ≡ j → (when_given j s j ≡ refuses m p) ↔ OfFile file After m p
      by (gives vs) e = ((λ f. inr ((vs, e), (k m p).0 f)), ⊎_elim (λ g. absurd (not_refused (sym e ∙ (refused_exactly file m p).1 g))) (λ x. (k m p).1 x.1))
      by (refuses n q) e =
          ((λ f. inl ((refused_exactly file m p).0 (e ∙ f))), ⊎_elim (λ g. sym e ∙ (refused_exactly file m p).1 g) (λ x. absurd (not_refused (sym x.0.1 ∙ e))))

module _ {before short : List (List ℕ)} where
  -- an answer
  pub refuses_nothing : (vs : List ℕ) (lent : List (List ℕ)) → Refuses Nothing before short (left (gives vs) lent)
  refuses_nothing vs lent = record { exactly = lists_nothing vs; kept = λ m p e. absurd (not_refused e); room = λ p e. absurd (not_refused e) }

  module _ {After : ℕ → ℕ → Type 0} (rest : Left) (k : Refuses After before short rest) where
    module _ {Case : Type 0} (t : Bool) where
      listed : (n q : ℕ) (lent : List (List ℕ)) → (t ≡ true) ↔ Case → Lists (Else Case n q After) (refusing t n q lent rest).said
      unfolding refusing pick
      listed n q lent f = subst (Lists (Else Case n q After)) (here t) (lists_else rest.said k.exactly t n q f)
        where
          here : (u : Bool) → pick u (refuses n q) rest.said ≡ (refusing u n q lent rest).said
          here true = refl
          here false = refl

      -- a refusal other than 12, or 12, before others
      pub refuses_else : (n q : ℕ) → (t ≡ true) ↔ Case → n ≢ 12 → Refuses (Else Case n q After) before short (refusing t n q before rest)
      unfolding refusing pick
      refuses_else n q f u = record { exactly = listed n q before f; kept = kept t; room = room t }
        where
          kept : (b : Bool) (m p : ℕ) → (refusing b n q before rest).said ≡ refuses m p → m ≢ 12 → (refusing b n q before rest).lent ≡ before
          kept true m p e v = refl
          kept false m p e v = k.kept m p e v

          room : (b : Bool) (p : ℕ) → (refusing b n q before rest).said ≡ refuses 12 p → (refusing b n q before rest).lent ≡ short
          room true p e = absurd (u (same_number e))
          room false p e = k.room p e

      pub refuses_short : (q : ℕ) → (t ≡ true) ↔ Case → Refuses (Else Case 12 q After) before short (refusing t 12 q short rest)
      unfolding refusing pick
      refuses_short q f = record { exactly = listed 12 q short f; kept = kept t; room = room t }
        where
          kept : (b : Bool) (m p : ℕ) → (refusing b 12 q short rest).said ≡ refuses m p → m ≢ 12 → (refusing b 12 q short rest).lent ≡ before
          kept true m p e v = absurd (v (sym (same_number e)))
          kept false m p e v = k.kept m p e v

          room : (b : Bool) (p : ℕ) → (refusing b 12 q short rest).said ≡ refuses 12 p → (refusing b 12 q short rest).lent ≡ short
          room true p e = refl
          room false p e = k.room p e

    -- the file's own, which are 1 to 8, before all
    pub refuses_file : (file : List ℕ) → Refuses (OfFile file After) before short (on_file file before rest)
    unfolding on_file when_given
    refuses_file file = record {
      exactly = subst (Lists (OfFile file After)) (at (judged file)) (lists_file rest.said k.exactly file);
      kept = λ m p e u. (by (judged file) refl).0 m p e u;
      room = λ p e. (by (judged file) refl).1 p e;
    }
      where
        at : (j : Said) → when_given j rest.said j ≡ (when_given j rest (left j before)).said
        at (gives vs) = refl
        at (refuses m p) = refl

        by : (j : Said) → judged file ≡ j
            → ((m p : ℕ) → (on_file file before rest).said ≡ refuses m p → m ≢ 12 → (on_file file before rest).lent ≡ before)
            × ((p : ℕ) → (on_file file before rest).said ≡ refuses 12 p → (on_file file before rest).lent ≡ short)
        by (gives vs) e =
            let f = file_given file before rest e in
            let said = sym (ap (λ (x : Left). x.said) f) in
            let lent = ap (λ (x : Left). x.lent) f in
            ((λ m p g u. lent ∙ k.kept m p (said ∙ g) u), (λ p g. lent ∙ k.room p (said ∙ g)))
        by (refuses n q) e =
            let f = file_refused file before rest e in
            let said = sym (ap (λ (x : Left). x.said) f) in
            ((λ m p g u. ap (λ (x : Left). x.lent) f), (λ p g. absurd ((refused_exactly file 12 q).0 (e ∙ ap (λ (m : ℕ). refuses m q) (same_number (said ∙ g))))))
