use Rattle.std.proofs.Common.{◌≡◌, ◌∙◌, ◌+◌, ◌≤◌, ◌<◌, ◌++◌, ◌∷◌, [], inl, inr, ap, sym, subst, length, Some, None, Err, arith}
use Rattle.rs_code.specs.Shape.{shape}
use Rattle.cluster_admin.specs.Inside.{state_of}
use Rattle.cluster_store.specs.Store.{over, AreSessions, IsStore, StandsOver}
use Rattle.volume_maker.specs.Making.{MakesVolume}
use Rattle.cluster_store.proofs.Fits.{over_sessions}
use Rattle.cluster_store.proofs.Shelves.{has_room}
use Rattle.cluster_store.proofs.Stores.{equally_long}
use Rattle.cluster_store.proofs.Made.{few_volumes, long_more, lost_stands, made_breaks, made_stands, made_there}
use Rattle.cluster_store.proofs.store.Store.make_volume.Goals as goal

pub make_volume-requires : goal.make_volume-requires
make_volume-requires g c = has_room g.F.Disk.Shelf.seen (over (state_of c.args.self.now.admin) c.args.self.now.volumes.items) (g.F.Farm.seen c.args.farm.now) c.requires.stands.is c.requires.stands.shelves

pub returns-in-Err-NotMade-clause-stands : goal.returns-in-Err-NotMade-clause-stands
returns-in-Err-NotMade-clause-stands g c =
    subst (λ vs. StandsOver g.F.Disk.Shelf.seen (over (state_of c.make_volume.new.admin) vs) (g.F.Farm.seen c.make_volume.new.farm)) (sym (c.push_reserved.ensures.items ∙ ap (λ vs. vs ++ None ∷ []) c.in_ok-reserve.ensures.items)) (lost_stands g.F.Disk.Shelf.seen g.F.Disk.File.Extent.seen c.args.mode (state_of c.args.self.now.admin) (state_of c.make_volume.new.admin) c.args.self.now.volumes.items (g.F.Farm.seen c.args.farm.now) (g.F.Farm.seen c.make_volume.new.farm) c.requires.stands.is c.in-Err-NotMade.cause (subst (λ f. MakesVolume g.F.Disk.Shelf.seen g.F.Disk.File.Extent.seen c.args.mode (state_of c.args.self.now.admin) (state_of c.make_volume.new.admin) (g.F.Farm.seen c.args.farm.now) (g.F.Farm.seen c.make_volume.new.farm) (Err f)) c.in-Err-NotMade.field-0-is c.in-Err-NotMade.ensures) c.requires.stands.shelves)

pub returns-in-Err-NotMade-clause-makes : goal.returns-in-Err-NotMade-clause-makes
returns-in-Err-NotMade-clause-makes g c = inr (inl (record { cause = c.in-Err-NotMade.cause; spent = (subst (λ f. MakesVolume g.F.Disk.Shelf.seen g.F.Disk.File.Extent.seen c.args.mode (state_of c.args.self.now.admin) (state_of c.make_volume.new.admin) (g.F.Farm.seen c.args.farm.now) (g.F.Farm.seen c.make_volume.new.farm) (Err f)) c.in-Err-NotMade.field-0-is c.in-Err-NotMade.ensures); volumes = (c.push_reserved.ensures.items ∙ ap (λ vs. vs ++ None ∷ []) c.in_ok-reserve.ensures.items); reply = c.lost_reply.ensures }))

pub overflow_cast-vid : goal.overflow_cast-vid
overflow_cast-vid g c =
    let number = (ap length c.as_slice.ensures.value ∙ long_more c.args.self.now.volumes.items c.push_reserved-2.new.self.items (Some (record { volume = c.in-Ok.volume; shape = shape c.in_ok-coder.coder })) (c.push_reserved-2.ensures.items ∙ ap (λ vs. vs ++ Some (record { volume = c.in-Ok.volume; shape = shape c.in_ok-coder.coder }) ∷ []) c.in_ok-reserve.ensures.items) ∙ ap (λ n. n + 1) (equally_long (over (state_of c.args.self.now.admin) c.args.self.now.volumes.items) c.requires.stands.is)) in
    let few = few_volumes (state_of c.args.self.now.admin) c.args.mode c.in-Ok.ensures.given.open_ in
    omega (arith, number, few)

pub break_in-requires-clause-first : goal.break_in-requires-clause-first
break_in-requires-clause-first g c =
    let number = (ap length c.as_slice.ensures.value ∙ long_more c.args.self.now.volumes.items c.push_reserved-2.new.self.items (Some (record { volume = c.in-Ok.volume; shape = shape c.in_ok-coder.coder })) (c.push_reserved-2.ensures.items ∙ ap (λ vs. vs ++ Some (record { volume = c.in-Ok.volume; shape = shape c.in_ok-coder.coder }) ∷ []) c.in_ok-reserve.ensures.items) ∙ ap (λ n. n + 1) (equally_long (over (state_of c.args.self.now.admin) c.args.self.now.volumes.items) c.requires.stands.is)) in
    omega (arith, number)

pub break_in-requires-clause-there : goal.break_in-requires-clause-there
break_in-requires-clause-there g c = made_there (state_of c.args.self.now.admin) (state_of c.make_volume.new.admin) c.args.mode c.in-Ok.ensures.disks _ c.in-Ok.ensures.tables (ap length c.as_slice.ensures.value ∙ long_more c.args.self.now.volumes.items c.push_reserved-2.new.self.items (Some (record { volume = c.in-Ok.volume; shape = shape c.in_ok-coder.coder })) (c.push_reserved-2.ensures.items ∙ ap (λ vs. vs ++ Some (record { volume = c.in-Ok.volume; shape = shape c.in_ok-coder.coder }) ∷ []) c.in_ok-reserve.ensures.items) ∙ ap (λ n. n + 1) (equally_long (over (state_of c.args.self.now.admin) c.args.self.now.volumes.items) c.requires.stands.is))

pub break_in-requires-clause-sound : goal.break_in-requires-clause-sound
break_in-requires-clause-sound g c = subst (λ vs. IsStore (over (state_of c.make_volume.new.admin) vs)) (sym (c.push_reserved-2.ensures.items ∙ ap (λ vs. vs ++ Some (record { volume = c.in-Ok.volume; shape = shape c.in_ok-coder.coder }) ∷ []) c.in_ok-reserve.ensures.items)) (made_stands g.F.Disk.Shelf.seen g.F.Disk.File.Extent.seen c.args.mode (state_of c.args.self.now.admin) (state_of c.make_volume.new.admin) c.args.self.now.volumes.items (g.F.Farm.seen c.args.farm.now) (g.F.Farm.seen c.make_volume.new.farm) c.requires.stands.is (record { volume = c.in-Ok.volume; shape = shape c.in_ok-coder.coder }) c.in-Ok.ensures c.in_ok-coder.ensures c.requires.stands.shelves).is

pub returns-clause-stands : goal.returns-clause-stands
returns-clause-stands g c = record {
  is = c.break_in.ensures.played.is;
  shelves = over_sessions g.F.Disk.Shelf.seen g.F.Disk.File.Extent.seen (over (state_of c.make_volume.new.admin) (c.args.self.now.volumes.items ++ Some (record { volume = c.in-Ok.volume; shape = shape c.in_ok-coder.coder }) ∷ [])) (over (state_of c.break_in.new.self.admin) c.break_in.new.self.volumes.items) c.break_in.ensures.played.steps (g.F.Farm.seen c.make_volume.new.farm)
      (subst (λ vs. AreSessions g.F.Disk.Shelf.seen g.F.Disk.File.Extent.seen vs c.break_in.new.self.volumes.items c.break_in.ensures.played.steps) (c.push_reserved-2.ensures.items ∙ ap (λ vs. vs ++ Some (record { volume = c.in-Ok.volume; shape = shape c.in_ok-coder.coder }) ∷ []) c.in_ok-reserve.ensures.items) c.break_in.ensures.played.turns_are) (made_stands g.F.Disk.Shelf.seen g.F.Disk.File.Extent.seen c.args.mode (state_of c.args.self.now.admin) (state_of c.make_volume.new.admin) c.args.self.now.volumes.items (g.F.Farm.seen c.args.farm.now) (g.F.Farm.seen c.make_volume.new.farm) c.requires.stands.is (record { volume = c.in-Ok.volume; shape = shape c.in_ok-coder.coder }) c.in-Ok.ensures c.in_ok-coder.ensures c.requires.stands.shelves).shelves;
}

pub returns-clause-makes : goal.returns-clause-makes
returns-clause-makes g c = inr (inr (inl (record {
  opened = (record { volume = c.in-Ok.volume; shape = shape c.in_ok-coder.coder });
  tables = (state_of c.make_volume.new.admin);
  made = c.in-Ok.ensures;
  way = c.is_way.ensures;
  breaks = made_breaks g.F.Disk.Shelf.seen g.F.Disk.File.Extent.seen (state_of c.args.self.now.admin) (state_of c.make_volume.new.admin) c.args.self.now.volumes.items c.push_reserved-2.new.self.items (record { volume = c.in-Ok.volume; shape = shape c.in_ok-coder.coder }) _ _ c.break_in.result (c.push_reserved-2.ensures.items ∙ ap (λ vs. vs ++ Some (record { volume = c.in-Ok.volume; shape = shape c.in_ok-coder.coder }) ∷ []) c.in_ok-reserve.ensures.items) (ap length c.as_slice.ensures.value ∙ long_more c.args.self.now.volumes.items c.push_reserved-2.new.self.items (Some (record { volume = c.in-Ok.volume; shape = shape c.in_ok-coder.coder })) (c.push_reserved-2.ensures.items ∙ ap (λ vs. vs ++ Some (record { volume = c.in-Ok.volume; shape = shape c.in_ok-coder.coder }) ∷ []) c.in_ok-reserve.ensures.items) ∙ ap (λ n. n + 1) (equally_long (over (state_of c.args.self.now.admin) c.args.self.now.volumes.items) c.requires.stands.is)) c.break_in.ensures.played;
})))
