use Rattle.dependency_book.proofs.Names.{CanBePut, Known, arc_value, pattern, subst}
use Rattle.dependency_book.proofs.Putting.{view_no_pattern}
use Rattle.dependency_book.proofs.book.Book.put_plane.Goals as goal

pub unreachable-requires : goal.unreachable-requires
unreachable-requires c =
    view_no_pattern c.args.self.now c.in_default.field-0 (arc_value c.args.plane)
    (subst (λ n. CanBePut c.args.self.now n (Known (pattern (arc_value c.args.plane)))) c.in_default.is
    c.requires)
