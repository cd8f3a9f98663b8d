-- The twelve starred cases of document 01, computed from the definitions.
use mathlib.Core.Path.{◌≡◌, refl}
use lib.ListN.{length}
use Rattle.counting.specs.Lists.{tab, flat}
use Rattle.counting.specs.Least.{least, name, pick}
use Rattle.counting.specs.Counts.{all, any, count, those, agree, place}
use Rattle.automaton.specs.Layers.{alike_kind, alike_next, layer, rounds, classes, class_count}
use Rattle.automaton.specs.Telling.{depth, parting_sign, word_from, telling}
use Rattle.automaton.specs.Reach.{grow, reached_in, reachable}
use Rattle.automaton.specs.Quotient.{rows_for, rows}
use Rattle.refining.specs.Lists.{waiting}
use Rattle.refining.specs.Fresh.{class_sizes, before, spared_of, pending_of, fresh_of, fresh}
use Rattle.refining.specs.Take.{taken_class, taken_sign, hits, leaves, split_class, kept_sizes, gone_sizes, lowered, split_pending, take_by, due_hits, take, entries}
use Rattle.refining.specs.Run.{step, step_takes, step_entries, run_lists, run_takes, run_entries}
use Rattle.lending.specs.Pairs.{pair_at, pair}
use Rattle.table.specs.Encoding.{field_of, encode}
use Rattle.shrinking.specs.Shrunk.{shrunk}
use Rattle.selftest.specs.Starred.{starred, AllHold}

-- there are twelve
counted : length starred ≡ 12
counted = refl

shown : AllHold starred
unfolding alike_kind alike_next layer rounds classes class_count count least name pick all any agree tab flat depth parting_sign word_from telling rows rows_for reachable reached_in grow those place waiting class_sizes before spared_of pending_of fresh_of fresh taken_class taken_sign hits leaves split_class kept_sizes gone_sizes lowered split_pending take_by due_hits take entries step step_takes step_entries run_lists run_takes run_entries pair_at pair field_of encode shrunk
shown = (
  (refl, refl, refl),
  (
    refl,
    (
      refl,
      (
        refl,
        (
          refl,
          (
            refl,
            (
              (refl, refl, refl),
              (
                refl,
                (
                  (refl, refl),
                  (
                    refl,
                    (
                      (refl, refl),
                      (
                        (refl, refl, refl),
                        tt,
                      ),
                    ),
                  ),
                ),
              ),
            ),
          ),
        ),
      ),
    ),
  ),
)
