-- What references to nodes and searches stand for.
use Rattle.std.specs.Prelude.{option_map}
use Rattle.c_tree.specs.declared.node.NodeRef.{NodeRef}
use Rattle.c_tree.specs.declared.node.NodeRef.TheVariants as r
use Rattle.c_tree.specs.declared.search.Search.{Search}
use Rattle.c_tree.specs.Progress.{Progress}
use Rattle.c_tree.specs.ProgramTree.{trees}
use Rattle.c_tree.specs.Nodes.{Node, program_node, function_node, declaration_node, named_node, parameter_node, member_node, enumerator_node, initializers_node, statement_node, expression_node}
use Rattle.c_tree.specs.View.{view_expression, view_declarator, view_enumerator, view_parameter}
use Rattle.c_tree.specs.StatementView.{view_function, view_declaration, view_named, view_list, view_statement}

-- the node that a reference names
abbrev pub seen : NodeRef → Node
seen (r.Program p) = program_node (trees p.now)
seen (r.Function f) = function_node (view_function f.now)
seen (r.Decl d) = declaration_node (view_declaration d.now)
seen (r.Named n) = named_node (view_named n.now)
seen (r.Parameter p) = parameter_node (view_parameter p.now).0 (view_parameter p.now).1
seen (r.Member d) = member_node (view_declarator d.now)
seen (r.Enumerator e) = enumerator_node (view_enumerator e.now).0 (view_enumerator e.now).1
seen (r.Parts l) = initializers_node (view_list l.now).0 (view_list l.now).1
seen (r.Stmt s) = statement_node (view_statement s.now)
seen (r.Expr e) = expression_node (view_expression e.now)

abbrev pub progress : Search → Progress
progress s = record { left = s.left; functions = s.functions; found = option_map seen s.found }
