use Rattle.std.{proofs.{Common.{◌≡◌, ◌∙◌, ◌+◌, ◌<◌, List, ℕ, [], ◌∷◌, ◌++◌, length, take, get_or, sym, ap}, lemmas.List.{append-nil, take_all, take_more, Concat.flat_map-append}}, specs.List.flat_map}
use Rattle.pm_wire.specs.Backend.{BackMessage}
use Rattle.pm_session_exchange.{specs.{pm_query.declared.item.Item.Item, Sent.{bytes_of, item_messages}}, proofs.SentLaws.bytes_of-none}
use Rattle.pm_load.proofs.Replays.{said_both}
use Rattle.pm_load.proofs.answers.put_items.Goals as goal

items_more : (items : List Item) (i : ℕ) (item : Item) → i < length items → item ≡ get_or items i item → flat_map item_messages (take (i + 1) items) ≡ flat_map item_messages (take i items) ++ item_messages item
items_more items i item lt is =
    ap (λ (l : List Item). flat_map item_messages l) (take_more items i item lt ∙ ap (λ (t : Item). take i items ++ t ∷ []) (sym is)) ∙ flat_map-append item_messages (take i items) (item ∷ [])
    ∙ ap (λ (l : List BackMessage). flat_map item_messages (take i items) ++ l) (append-nil (item_messages item))

pub loop-item-init : goal.loop-item-init
loop-item-init c = sym (append-nil c.args.out.now) ∙ ap (λ (l : List ℕ). c.args.out.now ++ l) (sym bytes_of-none)

pub loop-item-preserved : goal.loop-item-preserved
loop-item-preserved c =
    said_both c.args.out.now _ _ (flat_map item_messages (take c.loop-item.item-index c.args.items.now)) (item_messages c.item-item.result) c.loop-item.invariant c.in_ok-put_item.ensures
    ∙ ap (λ (ms : List BackMessage). c.args.out.now ++ bytes_of ms) (sym (items_more c.args.items.now c.loop-item.item-index c.item-item.result c.loop-item-test.true c.item-item.is))

pub returns : goal.returns
returns c = c.loop-item.invariant ∙ ap (λ (l : List Item). c.args.out.now ++ bytes_of (flat_map item_messages l)) (take_all c.loop-item.item-index c.args.items.now c.loop-item-test.false)
