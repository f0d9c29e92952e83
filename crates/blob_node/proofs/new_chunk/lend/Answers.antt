-- A file that is made is empty, and one that is there is as an earlier try left it.
use Rattle.std.proofs.Common.{◌≡◌, ◌∙◌, subst, false, IfSome, Err}
use Rattle.std.specs.Prelude.{IsErrOf, ◌↔◌}
use Rattle.disk_base.specs.Places.{is_there}
use Rattle.disk_base.specs.Shelves.{ShelfCall, IsMade, MayBeMade, IsThere, Makes, Opens}
use Rattle.disk_base.specs.declared.fault.ShelfFault.TheVariants.{Absent}
use Rattle.blob_node.proofs.NewFiles.{lent_made, lent_opened, refused_made}
use Rattle.blob_node.proofs.Tries.{goes_made, goes_failed, goes_same, goes_opened}
use Rattle.blob_node.proofs.new_chunk.lend.Goals as goal

pub returns-in-Ok-clause-lends : goal.returns-in-Ok-clause-lends
returns-in-Ok-clause-lends g c =
    lent_made g.H.File.Extent.seen c.args.unit (g.H.Shelf.seen c.args.shelf.now) (g.H.Shelf.seen c.make.new.self) c.in-Ok.file
    c.in-Ok.ensures.call
    (subst (λ w. IsMade g.H.File.Extent.seen w (g.H.Shelf.seen c.args.shelf.now) (g.H.Shelf.seen c.make.new.self) c.in-Ok.file) c.pack-word.ensures.word c.in-Ok.ensures.answer)

pub returns-in-Ok-clause-moments : goal.returns-in-Ok-clause-moments
returns-in-Ok-clause-moments g c = λ out none told empty.
    goes_made g.H.Shelf.seen g.H.File.Extent.seen c.args.unit c.args.shelf.now out none c.make.new.self c.in-Ok.file told
    (subst (λ w. IsMade g.H.File.Extent.seen w (g.H.Shelf.seen c.args.shelf.now) (g.H.Shelf.seen c.make.new.self) c.in-Ok.file) c.pack-word.ensures.word c.in-Ok.ensures.answer)

pub returns-in-Err-Exists-clause-lends : goal.returns-in-Err-Exists-clause-lends
returns-in-Err-Exists-clause-lends g c =
    let old = g.H.Shelf.seen c.args.shelf.now in
    let mid = g.H.Shelf.seen c.make.new.self in
    let new = g.H.Shelf.seen c.open.new.self in
    lent_opened g.H.File.Extent.seen c.args.unit old mid new (subst (λ f. ShelfCall old mid (Err f)) c.in-Err-Exists.field-0-is c.in-Err-Exists.ensures.call)
    (subst (λ w. IsThere w old mid) c.pack-word.ensures.word (subst (λ f. Makes g.H.File.Extent.seen c.pack-word.result old mid (Err f)) c.in-Err-Exists.field-0-is c.in-Err-Exists.ensures.answer))
    c.open.result c.requires c.open.ensures.call
    (subst (λ w. IfSome (is_there (mid.place w)) (λ there. IsErrOf c.open.result Absent ↔ (there ≡ false))) c.pack-word.ensures.word c.open.ensures.absent)
    (subst (λ w. Opens g.H.File.Extent.seen w mid new c.open.result) c.pack-word.ensures.word c.open.ensures.answer)

pub returns-in-Err-Exists-clause-moments : goal.returns-in-Err-Exists-clause-moments
returns-in-Err-Exists-clause-moments g c = λ out none told empty.
    goes_opened g.H.Shelf.seen g.H.File.Extent.seen c.args.unit c.args.shelf.now out none c.make.new.self c.open.new.self c.open.result (c.in-Err-Exists.ensures.call.told ∙ told)
    (subst (λ f. Makes g.H.File.Extent.seen c.pack-word.result (g.H.Shelf.seen c.args.shelf.now) (g.H.Shelf.seen c.make.new.self) (Err f)) c.in-Err-Exists.field-0-is c.in-Err-Exists.ensures.answer).stay
    (subst (λ w. Opens g.H.File.Extent.seen w (g.H.Shelf.seen c.make.new.self) (g.H.Shelf.seen c.open.new.self) c.open.result) c.pack-word.ensures.word c.open.ensures.answer)

pub returns-in-Err-Failed-clause-lends : goal.returns-in-Err-Failed-clause-lends
returns-in-Err-Failed-clause-lends g c =
    refused_made g.H.File.Extent.seen c.args.unit (g.H.Shelf.seen c.args.shelf.now) (g.H.Shelf.seen c.make.new.self)
    (subst (λ f. ShelfCall (g.H.Shelf.seen c.args.shelf.now) (g.H.Shelf.seen c.make.new.self) (Err f)) c.in-Err-Failed.field-0-is c.in-Err-Failed.ensures.call)
    (subst (λ w. MayBeMade g.H.File.Extent.seen w (g.H.Shelf.seen c.args.shelf.now) (g.H.Shelf.seen c.make.new.self)) c.pack-word.ensures.word
    (subst (λ f. Makes g.H.File.Extent.seen c.pack-word.result (g.H.Shelf.seen c.args.shelf.now) (g.H.Shelf.seen c.make.new.self) (Err f)) c.in-Err-Failed.field-0-is c.in-Err-Failed.ensures.answer))
    c.requires (g.met.H.Shelf.is_shelf c.make.new.self)

pub returns-in-Err-Failed-clause-moments : goal.returns-in-Err-Failed-clause-moments
returns-in-Err-Failed-clause-moments g c = λ out none told empty.
    goes_failed g.H.Shelf.seen g.H.File.Extent.seen c.args.unit c.args.shelf.now out none c.make.new.self told
    (subst (λ w. MayBeMade g.H.File.Extent.seen w (g.H.Shelf.seen c.args.shelf.now) (g.H.Shelf.seen c.make.new.self)) c.pack-word.ensures.word
    (subst (λ f. Makes g.H.File.Extent.seen c.pack-word.result (g.H.Shelf.seen c.args.shelf.now) (g.H.Shelf.seen c.make.new.self) (Err f)) c.in-Err-Failed.field-0-is c.in-Err-Failed.ensures.answer))

pub returns-in-Err-Memory-clause-moments : goal.returns-in-Err-Memory-clause-moments
returns-in-Err-Memory-clause-moments g c = λ out none told empty.
    goes_same g.H.Shelf.seen g.H.File.Extent.seen c.args.unit c.args.shelf.now out none c.make.new.self
    (subst (λ f. Makes g.H.File.Extent.seen c.pack-word.result (g.H.Shelf.seen c.args.shelf.now) (g.H.Shelf.seen c.make.new.self) (Err f)) c.in-Err-Memory.field-0-is c.in-Err-Memory.ensures.answer)
