use Rattle.std.proofs.Common.{◌≡◌, ◌∙◌, sym, ap, refl, ℕ, List, [], ◌∷◌, ◌++◌}
use Rattle.unit_id.specs.Place.{Location}
use Rattle.volume_entry.specs.Manager.{Grant, Transfer, home_at}
use Rattle.volume_entry.proofs.TableLists.{transfers_to-more}
use Rattle.volume_entry.proofs.held.transfers_to.Goals as goal

more_is : (items new front all : List Transfer) (x y : Transfer) → new ≡ items ++ x ∷ [] → items ≡ front → all ≡ front ++ y ∷ [] → x ≡ y → new ≡ all
more_is items new front all x y h i m e = h ∙ ap (λ ts. ts ++ x ∷ []) i ∙ ap (λ t. front ++ t ∷ []) e ∙ sym m

transfer_is : (homes : List Location) (g item : Grant) (old : Location) (index : ℕ) (t : Transfer) → old ≡ home_at homes index → index ≡ g.index → g ≡ item
    → t ≡ record { index = g.index; old = old; dest = g.dest } → t ≡ record { index = item.index; old = home_at homes item.index; dest = item.dest }
transfer_is homes g item old index t o i e h =
    h ∙ ap (λ (l : Location). let u : Transfer = record { index = g.index; old = l; dest = g.dest } in u) (o ∙ ap (home_at homes) i)
    ∙ ap (λ (k : Grant). let u : Transfer = record { index = k.index; old = home_at homes k.index; dest = k.dest } in u) e

pub loop-grant-preserved : goal.loop-grant-preserved
loop-grant-preserved c =
    let more = transfers_to-more c.args.grants.now c.loop-grant.grant-index c.grant-item.result c.args.homes.now c.loop-grant-test.true c.grant-item.is in
    more_is c.loop-grant.transfers.items c.push.new.self.items _ _ _ _ c.in_ok-push.ensures.items c.loop-grant.invariant more
    (transfer_is c.args.homes.now _ c.grant-item.result c.home_at-old.result c.from.result _ c.home_at-old.ensures c.from.ensures c.grant.view_is refl)
