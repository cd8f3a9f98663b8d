-- Answers as structs of numbers: number 0 with the values, or the refusal's number and place with zeros.
use Rattle.std.specs.Prelude.{[], ◌∷◌, get_or}
use Rattle.table.specs.Answers.{Said, gives, refuses}
use Rattle.table.specs.declared.answer.Part.{Part}
use Rattle.wylgentip.specs.declared.words.WylRan.{WylRan}
use Rattle.wylgentip.specs.declared.layers.WylLayered.{WylLayered}
use Rattle.wylgentip.specs.declared.shrinks.WylShrunk.{WylShrunk}
use Rattle.wylgentip.specs.declared.takes.WylStarted.{WylStarted}
use Rattle.wylgentip.specs.declared.takes.WylTaken.{WylTaken}
use Rattle.wylgentip.specs.declared.tells.WylTold.{WylTold}
use Rattle.wylgentip.specs.declared.file.WylJudged.{WylJudged}
use Rattle.wylgentip.specs.declared.file.WylPart.{WylPart}

-- the judgement of a file: n, k and start, or the refusal
abbrev pub flat_judged : Said → WylJudged
flat_judged (gives vs) = record { number = 0; place = 0; states = get_or vs 0 0; signs = get_or vs 1 0; start = get_or vs 2 0 }
flat_judged (refuses number place) = record { number = number; place = place; states = 0; signs = 0; start = 0 }

-- a part of the file
abbrev pub flat_part : Part → WylPart
flat_part p = record { place = p.place; length = p.length }

-- a run: the mark of the last state, or the refusal
abbrev pub flat_ran : Said → WylRan
flat_ran (gives vs) = record { number = 0; place = 0; kind = get_or vs 0 0 }
flat_ran (refuses number place) = record { number = number; place = place; kind = 0 }

-- the layered call: m and r, or the refusal
abbrev pub flat_layers : Said → WylLayered
flat_layers (gives vs) = record { number = 0; place = 0; classes = get_or vs 0 0; rounds = get_or vs 1 0 }
flat_layers (refuses number place) = record { number = number; place = place; classes = 0; rounds = 0 }

-- the telling word: alike, or its length, or the refusal
abbrev pub flat_tell : Said → WylTold
flat_tell (gives []) = record { number = 0; place = 0; apart = 0; length = 0 }
flat_tell (gives (length ∷ vs)) = record { number = 0; place = 0; apart = 1; length = length }
flat_tell (refuses number place) = record { number = number; place = place; apart = 0; length = 0 }

-- a fresh start: nothing but the lists, or the refusal
abbrev pub flat_start : Said → WylStarted
flat_start (gives vs) = record { number = 0; place = 0 }
flat_start (refuses number place) = record { number = number; place = place }

-- a run: takes made and entries looked at, or the refusal
abbrev pub flat_run : Said → WylTaken
flat_run (gives vs) = record { number = 0; place = 0; takes = get_or vs 0 0; entries = get_or vs 1 0 }
flat_run (refuses number place) = record { number = number; place = place; takes = 0; entries = 0 }

-- the shrunk file: its rows and its length, or the refusal
abbrev pub flat_shrink : Said → WylShrunk
flat_shrink (gives vs) = record { number = 0; place = 0; rows = get_or vs 0 0; length = get_or vs 1 0 }
flat_shrink (refuses number place) = record { number = number; place = place; rows = 0; length = 0 }
