-- The keys of a set of marks.
use Rattle.volume_entry.specs.Manager.{HeardMark}
use Rattle.volume_entry.specs.declared.heard_marks.Mark.{Mark}

abbrev pub mark_of : Mark → HeardMark
mark_of key = record { bid = key.bid; index = key.index; epoch = key.epoch }
