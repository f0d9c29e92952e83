use Rattle.std.proofs.Common.{◌≡◌, ◌∙◌, sym, ap, subst, List}
use Rattle.std.specs.Prelude.{◌==◌, is_some}
use Rattle.unit_id.specs.Lists.{any}
use Rattle.volume_entry.specs.Manager.{Grant, Transfer, Lock, transfers_of, is_swapped, IsNextHome, IsLegalRetarget}
use Rattle.volume_entry.specs.TableParts.{Tells, IsFreeOfOthers, shape_of}
use Rattle.volume_entry.proofs.Walks.{tells_map}
use Rattle.volume_entry.proofs.table.Table.is_legal_retarget.Goals as goal

pub returns : goal.returns
returns c =
    let t = c.args.self.now in
    let grant = c.args.grant in
    let shape = shape_of c.args.shape in
    let held : c.lock.inside.transfers.items ≡ transfers_of t.lock = ap (λ (l : Lock). l.transfers) c.lock.view_is ∙ ap transfers_of (sym c.in-Some.is) in
    let searched : c.deref.result.now ≡ transfers_of t.lock = c.deref.ensures.value ∙ held in
    let tested : c.deref-4.result.now ≡ transfers_of t.lock = c.deref-4.ensures.value ∙ held in
    let index : c.grant.inside.index ≡ grant.index = ap (λ (g : Grant). g.index) c.grant.view_is in
    let free : Tells c.is_free_of_others.result (IsFreeOfOthers (transfers_of t.lock) grant) =
    subst (λ (ts : List Transfer). Tells c.is_free_of_others.result (IsFreeOfOthers ts grant)) tested c.is_free_of_others.ensures in
    let home : IsNextHome shape t.homes.items t.greatest.items grant = rw (c.deref-2.ensures.value, c.deref-3.ensures.value) at c.if-not-is_next_home.ensures in
    tells_map (IsFreeOfOthers (transfers_of t.lock) grant) (IsLegalRetarget shape t.homes.items t.greatest.items t.lock grant) c.is_free_of_others.result
    (λ apart. record {
      locked = ap is_some c.in-Some.is;
      unswapped = ap is_swapped c.in-Some.is ∙ ap (λ (l : Lock). l.is_swapped) (sym c.lock.view_is) ∙ c.if-lock.false;
      moves = sym (ap (λ i. any (λ (t : Transfer). t.index == i) (transfers_of t.lock)) index)
          ∙ sym (ap (λ ts. any (λ (t : Transfer). t.index == c.grant.inside.index) ts) searched) ∙ sym c.moves_index.ensures ∙ c.if-not-moves_index.false;
      home = home;
      apart = apart;
    })
    (λ l. l.apart) free
