use Rattle.book_office_audit.proofs.Common.{ap, ◌∙◌, map, codes, [], empty, flat_map, block_of, gathered, level_block, shelf_blocks}
use Rattle.book_office_audit.proofs.Gathering.{gathered_all}
use Rattle.book_office_audit.proofs.audits.resource_blocks.Goals as goal

pub returns : goal.returns
returns c =
    let k = c.args.contents.now in
    gathered_all empty c.add_levels.new.blocks c.add_children.new.blocks c.add_children-2.new.blocks c.add_children-3.new.blocks c.add_children-4.new.blocks c.add_shelves.new.blocks
    (map (level_block k.top.owner) k.top.lists.levels) (map (block_of []) k.top.homes) (map (block_of (codes "/people")) k.residents.persons)
    (map (block_of (codes "/groups")) k.residents.groups) (map (block_of (codes "/books")) k.residents.books) (flat_map shelf_blocks k.shelves)
    (c.in_ok-add_levels.ensures ∙ (λ i. gathered (c.new-blocks.ensures i) (map (level_block k.top.owner) (c.as_slice.ensures i))))
    (c.in_ok-add_children.ensures ∙ ap (λ l. gathered c.add_levels.new.blocks (map (block_of []) l)) c.as_slice-2.ensures)
    (c.in_ok-add_children-2.ensures ∙ ap (λ l. gathered c.add_children.new.blocks (map (block_of (codes "/people")) l)) c.as_slice-3.ensures)
    (c.in_ok-add_children-3.ensures ∙ ap (λ l. gathered c.add_children-2.new.blocks (map (block_of (codes "/groups")) l)) c.as_slice-4.ensures)
    (c.in_ok-add_children-4.ensures ∙ ap (λ l. gathered c.add_children-3.new.blocks (map (block_of (codes "/books")) l)) c.as_slice-5.ensures)
    (c.in_ok-add_shelves.ensures ∙ ap (λ l. gathered c.add_children-4.new.blocks (flat_map shelf_blocks l)) c.as_slice-6.ensures)
