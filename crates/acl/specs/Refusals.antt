-- The number and the layer of each refusal. Assumes nothing.
use Rattle.std.specs.Prelude.{ℕ}
use Rattle.acl.specs.declared.refusal.Layer.{Layer}
use Rattle.acl.specs.declared.refusal.Layer.TheVariants.{Word, Line, List as WholeList}
use Rattle.acl.specs.declared.refusal.Refusal.{Refusal}
use Rattle.acl.specs.declared.refusal.Refusal.TheVariants.{TooManyNodes, BadProfile, NoSlot, SlotTaken, SlotEmpty, TooManyLines, NoRoom, NoLine, ShortMemory, TooLong, BadWord, BadAddress, BadNumber, BackwardRange, OtherList, NotStandard}

-- the number under which manuals list the refusal
abbrev pub refusal_number : Refusal → ℕ
refusal_number TooManyNodes = 1
refusal_number BadProfile = 2
refusal_number NoSlot = 3
refusal_number SlotTaken = 4
refusal_number SlotEmpty = 5
refusal_number TooManyLines = 6
refusal_number NoRoom = 7
refusal_number NoLine = 8
refusal_number ShortMemory = 9
refusal_number TooLong = 10
refusal_number BadWord = 11
refusal_number BadAddress = 12
refusal_number BadNumber = 13
refusal_number BackwardRange = 14
refusal_number OtherList = 15
refusal_number NotStandard = 16

-- where a text is at fault: in a word, in a line, or in the list as a whole
abbrev pub refusal_layer : Refusal → Layer
refusal_layer TooManyNodes = WholeList
refusal_layer BadProfile = WholeList
refusal_layer NoSlot = WholeList
refusal_layer SlotTaken = WholeList
refusal_layer SlotEmpty = WholeList
refusal_layer TooManyLines = WholeList
refusal_layer NoRoom = WholeList
refusal_layer NoLine = WholeList
refusal_layer ShortMemory = WholeList
refusal_layer TooLong = WholeList
refusal_layer BadWord = Line
refusal_layer BadAddress = Word
refusal_layer BadNumber = Word
refusal_layer BackwardRange = Line
refusal_layer OtherList = WholeList
refusal_layer NotStandard = WholeList
