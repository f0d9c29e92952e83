use Rattle.std.proofs.Common.{◌∙◌, sym, arith}
use Rattle.volume_entry.specs.Manager.{IsLegalLock}
use Rattle.volume_entry.specs.TableParts.{Tells, AreNextHomes, shape_of}
use Rattle.volume_entry.proofs.Locks.{no_lock}
use Rattle.volume_entry.proofs.Walks.{apart_order, apart_disks, apart_of, tells_map}
use Rattle.volume_entry.proofs.table.Table.is_legal_lock.Goals as goal

pub returns-then-not-are_apart : goal.returns-then-not-are_apart
returns-then-not-are_apart c = λ l. c.if-not-are_apart.ensures (apart_of c.args.grants.now l.order l.apart)

pub returns : goal.returns
returns c =
    let t = c.args.self.now in
    let shape = shape_of c.args.shape in
    let next : Tells c.are_next_homes.result (AreNextHomes shape t.homes.items t.greatest.items c.args.grants.now) = rw (c.deref.ensures.value, c.deref-2.ensures.value) at c.are_next_homes.ensures in
    let count = c.if-not-is_move_count.ensures in
    tells_map (AreNextHomes shape t.homes.items t.greatest.items c.args.grants.now) (IsLegalLock shape t.homes.items t.greatest.items t.lease_end t.granted t.lock c.args.number c.args.grants.now) c.are_next_homes.result
    (λ homes. record {
      unlocked = no_lock t.lock (sym c.is_some.ensures ∙ c.if-is_some.false);
      in_time = omega arith;
      next = c.if-not-is_next.ensures;
      some = count.0;
      most = count.1;
      order = apart_order c.args.grants.now c.if-not-are_apart.ensures;
      homes = homes;
      apart = apart_disks c.args.grants.now c.if-not-are_apart.ensures;
    })
    (λ l. l.homes) next
