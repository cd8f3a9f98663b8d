-- The sign plan: document 01's list, the constant list of 256 signs, and the word that a line spells by any such list.
use Rattle.std.specs.Prelude.{◌≡◌, Bool, ◌&&◌, List, [], ◌∷◌, map, ℕ, ◌-◌, ◌<◌, eqb, leb, length}
use Rattle.counting.specs.Lists.{at}
use Rattle.counting.specs.Least.{pick}

-- from one byte to another
abbrev within : ℕ → ℕ → ℕ → Bool
within low high b = leb low b && leb b high

-- `0` to `9`: 0 to 9. `A` to `Z` and `a` to `z`: 10 to 35. Space 36, `+` 37, `-` 38, `.` 39, `/` 40, `,` 41, `:` 42, `=` 43, byte 13: 44, byte 10: 45. Every other byte: 46.
unfoldable pub sign_of : ℕ → ℕ
sign_of b =
    pick (within 48 57 b) (b - 48)
    (pick (within 65 90 b) (b - 55)
    (pick (within 97 122 b) (b - 87)
    (pick (eqb b 32) 36
    (pick (eqb b 43) 37
    (pick (eqb b 45) 38
    (pick (eqb b 46) 39
    (pick (eqb b 47) 40
    (pick (eqb b 44) 41
    (pick (eqb b 58) 42
    (pick (eqb b 61) 43
    (pick (eqb b 13) 44
    (pick (eqb b 10) 45 46))))))))))))

-- the constant list of 256 signs, one for each byte
unfoldable pub plan1 : List ℕ
plan1 =
    46 ∷ 46 ∷ 46 ∷ 46 ∷ 46 ∷ 46 ∷ 46 ∷ 46 ∷ 46 ∷ 46 ∷ 45 ∷ 46 ∷ 46 ∷ 44 ∷ 46 ∷ 46 ∷
    46 ∷ 46 ∷ 46 ∷ 46 ∷ 46 ∷ 46 ∷ 46 ∷ 46 ∷ 46 ∷ 46 ∷ 46 ∷ 46 ∷ 46 ∷ 46 ∷ 46 ∷ 46 ∷
    36 ∷ 46 ∷ 46 ∷ 46 ∷ 46 ∷ 46 ∷ 46 ∷ 46 ∷ 46 ∷ 46 ∷ 46 ∷ 37 ∷ 41 ∷ 38 ∷ 39 ∷ 40 ∷
    0 ∷ 1 ∷ 2 ∷ 3 ∷ 4 ∷ 5 ∷ 6 ∷ 7 ∷ 8 ∷ 9 ∷ 42 ∷ 46 ∷ 46 ∷ 43 ∷ 46 ∷ 46 ∷
    46 ∷ 10 ∷ 11 ∷ 12 ∷ 13 ∷ 14 ∷ 15 ∷ 16 ∷ 17 ∷ 18 ∷ 19 ∷ 20 ∷ 21 ∷ 22 ∷ 23 ∷ 24 ∷
    25 ∷ 26 ∷ 27 ∷ 28 ∷ 29 ∷ 30 ∷ 31 ∷ 32 ∷ 33 ∷ 34 ∷ 35 ∷ 46 ∷ 46 ∷ 46 ∷ 46 ∷ 46 ∷
    46 ∷ 10 ∷ 11 ∷ 12 ∷ 13 ∷ 14 ∷ 15 ∷ 16 ∷ 17 ∷ 18 ∷ 19 ∷ 20 ∷ 21 ∷ 22 ∷ 23 ∷ 24 ∷
    25 ∷ 26 ∷ 27 ∷ 28 ∷ 29 ∷ 30 ∷ 31 ∷ 32 ∷ 33 ∷ 34 ∷ 35 ∷ 46 ∷ 46 ∷ 46 ∷ 46 ∷ 46 ∷
    46 ∷ 46 ∷ 46 ∷ 46 ∷ 46 ∷ 46 ∷ 46 ∷ 46 ∷ 46 ∷ 46 ∷ 46 ∷ 46 ∷ 46 ∷ 46 ∷ 46 ∷ 46 ∷
    46 ∷ 46 ∷ 46 ∷ 46 ∷ 46 ∷ 46 ∷ 46 ∷ 46 ∷ 46 ∷ 46 ∷ 46 ∷ 46 ∷ 46 ∷ 46 ∷ 46 ∷ 46 ∷
    46 ∷ 46 ∷ 46 ∷ 46 ∷ 46 ∷ 46 ∷ 46 ∷ 46 ∷ 46 ∷ 46 ∷ 46 ∷ 46 ∷ 46 ∷ 46 ∷ 46 ∷ 46 ∷
    46 ∷ 46 ∷ 46 ∷ 46 ∷ 46 ∷ 46 ∷ 46 ∷ 46 ∷ 46 ∷ 46 ∷ 46 ∷ 46 ∷ 46 ∷ 46 ∷ 46 ∷ 46 ∷
    46 ∷ 46 ∷ 46 ∷ 46 ∷ 46 ∷ 46 ∷ 46 ∷ 46 ∷ 46 ∷ 46 ∷ 46 ∷ 46 ∷ 46 ∷ 46 ∷ 46 ∷ 46 ∷
    46 ∷ 46 ∷ 46 ∷ 46 ∷ 46 ∷ 46 ∷ 46 ∷ 46 ∷ 46 ∷ 46 ∷ 46 ∷ 46 ∷ 46 ∷ 46 ∷ 46 ∷ 46 ∷
    46 ∷ 46 ∷ 46 ∷ 46 ∷ 46 ∷ 46 ∷ 46 ∷ 46 ∷ 46 ∷ 46 ∷ 46 ∷ 46 ∷ 46 ∷ 46 ∷ 46 ∷ 46 ∷
    46 ∷ 46 ∷ 46 ∷ 46 ∷ 46 ∷ 46 ∷ 46 ∷ 46 ∷ 46 ∷ 46 ∷ 46 ∷ 46 ∷ 46 ∷ 46 ∷ 46 ∷ 46 ∷ []

-- A sign plan: 256 signs below 47.
pub record SignPlan (plan : List ℕ) : Type 0 where
  pub long : length plan ≡ 256
  pub below : (b : ℕ) → b < 256 → at plan b < 47

-- the word that a line spells: the sign of each byte
unfoldable pub spelled : List ℕ → List ℕ → List ℕ
spelled plan line = map (at plan) line
