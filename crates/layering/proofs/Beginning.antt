-- The first names, state by state.
use mathlib.Core.Path.{◌≡◌, refl, sym, ap, subst, ◌∙◌}
use mathlib.Core.Logic.{◌≢◌}
use mathlib.Core.Bool.{Bool}
use mathlib.Core.List.{List}
use Prim.Native.Nat.{ℕ, ◌+◌, ◌-◌, ◌*◌, ◌≤◌, ◌<◌}
use native.Mathlib.Nat.{not-suc-le-zero}
use native.Mathlib.Numerals.{add-one}
use native.Mathlib.Decide.{dec_lt, ℕ_discrete}
use native.Mathlib.Omega.{arith}
use borrow.Author.Tests.{eq-eqb, ne_eqb}
use lib.Dec.{eqb}
use borrow.Rule.Slice.PartMut.{put_mid}
use lib.ListN.{length, set, take, drop, replicate, length-set}
use lib.Seq.{get_or-set_same, get_or-set_other}
use Rattle.std.specs.Prelude.{Option, None, Some}
use Rattle.std.specs.Option.{unwrap_or}
use Rattle.counting.specs.Lists.{at}
use Rattle.counting.specs.Least.{name, IsFirst}
use Rattle.counting.proofs.Leasts.{first_least}
use Rattle.layering.specs.Layered.{FirstNamed, Unborn, Begun}
use Rattle.layering.proofs.Emptying.{Zeroed, zeroed, zeroed_one}

pub first_named_none : (marks w : List ℕ) → FirstNamed marks 0 w w
first_named_none marks w = record { long = refl; names = λ x l. absurd (not-suc-le-zero l); beyond = λ i l. refl }

pub first_named_more : (q v : ℕ) (marks w₀ w : List ℕ) → q < length w → v ≡ name (λ y z. eqb (at marks y) (at marks z)) q → FirstNamed marks q w₀ w → FirstNamed marks (q + 1) w₀ (set w q v)
first_named_more q v marks w₀ w room e b = record {
  long = length-set w q v ∙ b.long;
  names = λ x m.
      elim (ℕ_discrete x q) [
        | yes z ↦ subst (λ (y : ℕ). at (set w q v) y ≡ name (λ y z. eqb (at marks y) (at marks z)) y) (sym z) (get_or-set_same w q v 0 room ∙ e)
        | no z ↦ get_or-set_other w q x v 0 z ∙ b.names x (omega arith)
      ];
  beyond = λ i m. get_or-set_other w q i v 0 (omega arith) ∙ b.beyond i (omega arith);
}

pub unborn_none : (n : ℕ) (w : List ℕ) → Unborn n 0 w w
unborn_none n w = record { long = refl; births = λ x l. absurd (not-suc-le-zero l); below = λ i l. refl; beyond = λ i l. refl }

-- births from one on to another set to 0
pub unborn_more : (n q r from to : ℕ) (w₀ w v : List ℕ) → from ≡ 3 * n + q → to ≡ 3 * n + r → r ≤ n → Zeroed from to w v → Unborn n q w₀ w → Unborn n r w₀ v
unborn_more n q r from to w₀ w v f t m z b = record {
  long = z.long ∙ b.long;
  births = λ x l.
      elim (dec_lt x q) [
        | yes h ↦ z.below (3 * n + x) (omega arith) ∙ b.births x h
        | no h ↦ z.zero (3 * n + x) (omega arith) (omega arith)
      ];
  below = λ i l. z.below i (omega arith) ∙ b.below i l;
  beyond = λ i l. z.beyond i (omega arith) ∙ b.beyond i l;
}

-- the births one state further
pub unborn_one : (n q : ℕ) (w₀ w : List ℕ) → q < n → 3 * n + q < length w → Unborn n q w₀ w → Unborn n (q + 1) w₀ (set w (3 * n + q) 0)
unborn_one n q w₀ w l room b =
    unborn_more n q (q + 1) (3 * n + q) (3 * n + q + 1) w₀ w _ refl (omega arith) (omega arith) (zeroed_one (3 * n + q) w room) b

-- all births filled at once
pub unborn_filled : (n : ℕ) (w zeros : List ℕ) → 6 * n ≤ length w → zeros ≡ replicate (length (take (4 * n - 3 * n) (drop (3 * n) w))) 0 → Unborn n n w (put_mid (3 * n) (4 * n - 3 * n) w zeros)
unborn_filled n w zeros room e =
    unborn_more n 0 n (3 * n) (4 * n) w w _ (omega arith) (omega arith) (omega arith) (zeroed (3 * n) (4 * n) w zeros (omega arith) (omega arith) e) (unborn_none n w)

-- named, then born
pub begun_born : (n : ℕ) (marks w₀ w v : List ℕ) → FirstNamed marks n w₀ w → Unborn n n w v → Begun n marks w₀ v
begun_born n marks w₀ w v a b = record {
  long = b.long ∙ a.long;
  names = λ x l. b.below x (omega arith) ∙ a.names x l;
  births = b.births;
  beyond = λ i l. b.beyond i (omega arith) ∙ a.beyond i (omega arith);
}

-- the states of a mark
abbrev pub has : List ℕ → ℕ → ℕ → Bool
has marks m y = eqb (at marks y) m

-- a state that has the mark: the first so far, or else itself, is the first, and its name
pub record Met (q m : ℕ) (marks : List ℕ) (r : ℕ) : Type 0 where
  pub first : IsFirst (q + 1) (has marks m) (Some r)
  pub low : r ≤ q
  pub named : r ≡ name (λ y z. eqb (at marks y) (at marks z)) q

pub met : (q m : ℕ) (marks : List ℕ) (r : Option ℕ) → at marks q ≡ m → IsFirst q (has marks m) r → Met q m marks (unwrap_or r q)
unfolding name
met q m marks r e h = record { first = first r h; low = omega (arith, (first r h).0); named = named }
  where
    first : (s : Option ℕ) → IsFirst q (has marks m) s → IsFirst (q + 1) (has marks m) (Some (unwrap_or s q))
    first None f = (omega arith, eq-eqb _ _ e, f)
    first (Some i) f = (omega (arith, f.0), f.1, f.2)

    named : unwrap_or r q ≡ name (λ y z. eqb (at marks y) (at marks z)) q
    named = rw (e, ← add-one q) (sym (first_least (unwrap_or r q) (first r h)))

-- a state that has not
pub passed : (q m : ℕ) (marks : List ℕ) (r : Option ℕ) → at marks q ≢ m → IsFirst q (has marks m) r → IsFirst (q + 1) (has marks m) r
passed q m marks None u f = λ i l. elim (ℕ_discrete i q) [ yes e ↦ rw e (ne_eqb _ _ u) | no v ↦ f i (omega arith) ]
passed q m marks (Some i) u f = (omega (arith, f.0), f.1, f.2)

-- One state more: its name, and the first states of each mark.
pub record Step (q : ℕ) (marks : List ℕ) (r : ℕ) (zero one : Option ℕ) : Type 0 where
  pub low : r ≤ q
  pub named : r ≡ name (λ y z. eqb (at marks y) (at marks z)) q
  pub first_zero : IsFirst (q + 1) (has marks 0) zero
  pub first_one : IsFirst (q + 1) (has marks 1) one

module _ {q r first : ℕ} {marks : List ℕ} (z o : Option ℕ) {zero one : Option ℕ} (h : IsFirst q (has marks 0) z) (k : IsFirst q (has marks 1) o) (n : r ≡ first) where
  pub step_zero : at marks q ≡ 0 → first ≡ unwrap_or z q → zero ≡ Some first → one ≡ o → Step q marks r zero one
  step_zero e f a b =
      let m : Met q 0 marks (unwrap_or z q) = met q 0 marks z e h in
      record {
        low = omega (arith, m.low);
        named = n ∙ f ∙ m.named;
        first_zero = subst (IsFirst (q + 1) (has marks 0)) (sym (a ∙ ap Some f)) m.first;
        first_one = subst (IsFirst (q + 1) (has marks 1)) (sym b) (passed q 1 marks o (λ g. omega arith) k);
      }

  pub step_one : at marks q ≡ 1 → first ≡ unwrap_or o q → zero ≡ z → one ≡ Some first → Step q marks r zero one
  step_one e f a b =
      let m : Met q 1 marks (unwrap_or o q) = met q 1 marks o e k in
      record {
        low = omega (arith, m.low);
        named = n ∙ f ∙ m.named;
        first_zero = subst (IsFirst (q + 1) (has marks 0)) (sym a) (passed q 0 marks z (λ g. omega arith) h);
        first_one = subst (IsFirst (q + 1) (has marks 1)) (sym (b ∙ ap Some f)) m.first;
      }
