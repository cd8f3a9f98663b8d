-- What `read_file` leaves is the front of the input, as far as a reader tells what it holds.
use Rattle.std.proofs.Common.{◌≡◌, IfSome, take, ℕ, List, [], ◌++◌, Option, None, Some, ap, ◌∙◌}
use Rattle.std.specs.Option.{option_map}
use Rattle.reporting.proofs.input.read_file.Goals as goal

front : (left : Option (List ℕ)) (before items : List ℕ) (n : ℕ) → before ≡ [] → n ≡ 65536 → IfSome (option_map (take n) left) (λ bytes. items ≡ before ++ bytes) → IfSome left (λ bytes. items ≡ take 65536 bytes)
front None before items n empty limit read = tt
front (Some bytes) before items n empty limit read = read ∙ ap (λ (xs : List ℕ). xs ++ take n bytes) empty ∙ ap (λ (k : ℕ). take k bytes) limit

pub returns : goal.returns
returns g c =
    front
    (g.R.Read.remaining c.args.input)
    _
    _
    _
    c.new-file.ensures.items
    c.take-input.ensures.limit
    (rw c.take-input.ensures.inner at c.in_ok-read_to_end.ensures.bytes)
