-- Syntax trees as plain data (C11 6.5 to 6.9, for what the subset keeps).
use Rattle.std.specs.Prelude.{ℕ, List, Option, Bool}
use Rattle.c_tree.specs.declared.tree.AssignOp.{AssignOp}
use Rattle.c_tree.specs.declared.tree.BinaryOp.{BinaryOp}
use Rattle.c_tree.specs.declared.tree.UnaryOp.{UnaryOp}
use Rattle.c_tree.specs.declared.tree.StepOp.{StepOp}
use Rattle.c_tree.specs.declared.tree.Storage.{Storage}
use Rattle.c_tree.specs.declared.tree.Qual.{Qual}

abbrev pub Name : Type 0
Name = List ℕ

abbrev pub Quals : Type 0
Quals = List Qual

abbrev pub Stars : Type 0
Stars = List Quals

mutual
  pub data Expression : Type 0 where
    comma : Expression → Expression → Expression
    assign : AssignOp → Expression → Expression → Expression
    choose : Expression → Expression → Expression → Expression
    binary : BinaryOp → Expression → Expression → Expression
    cast : TypeTree → Expression → Expression
    unary : UnaryOp → Expression → Expression
    before : StepOp → Expression → Expression
    size_of : Expression → Expression
    size_of_type : TypeTree → Expression
    index : Expression → Expression → Expression
    call : Expression → Expressions → Expression
    dot : Expression → Name → Expression
    arrow : Expression → Name → Expression
    after : StepOp → Expression → Expression
    name : Name → Expression
    integer : Name → Expression
    character : Name → Expression
    text : List Name → Expression
    paren : Expression → Expression

  pub data Expressions : Type 0 where
    no_expressions : Expressions
    expressions : Expression → Expressions → Expressions

  pub data Sizes : Type 0 where
    no_sizes : Sizes
    open_size : Sizes → Sizes
    size : Expression → Sizes → Sizes

  pub data TypeTree : Type 0 where
    typed : Specifiers → BareTree → TypeTree

  pub data Specifiers : Type 0 where
    no_specifiers : Specifiers
    specifiers : Specifier → Specifiers → Specifiers

  pub data Specifier : Type 0 where
    const_word : Specifier
    volatile_word : Specifier
    void_word : Specifier
    char_word : Specifier
    short_word : Specifier
    int_word : Specifier
    long_word : Specifier
    signed_word : Specifier
    unsigned_word : Specifier
    type_name : Name → Specifier
    struct_tag : Name → Specifier
    struct_of : Option Name → Members → Specifier
    enum_tag : Name → Specifier
    enum_of : Option Name → Enumerators → Bool → Specifier

  pub data Members : Type 0 where
    no_members : Members
    member : Specifiers → Declarators → Members → Members

  pub data Declarators : Type 0 where
    no_declarators : Declarators
    declarators : DeclaratorTree → Declarators → Declarators

  pub data Enumerators : Type 0 where
    no_enumerators : Enumerators
    enumerator : Name → Enumerators → Enumerators
    enumerator_with : Name → Expression → Enumerators → Enumerators

  pub data DeclaratorTree : Type 0 where
    plain : Stars → Name → DeclaratorTree
    array : Stars → Name → Sizes → DeclaratorTree
    function : Stars → Name → Parameters → Bool → DeclaratorTree
    pointer : Stars → Quals → Name → Sizes → Parameters → Bool → DeclaratorTree

  pub data Parameters : Type 0 where
    no_parameters : Parameters
    parameters : Specifiers → ParameterForm → Parameters → Parameters

  pub data ParameterForm : Type 0 where
    named_form : DeclaratorTree → ParameterForm
    bare_form : BareTree → ParameterForm

  pub data BareTree : Type 0 where
    bare_stars : Stars → BareTree
    bare_pointer : Stars → Quals → Parameters → Bool → BareTree

mutual
  pub data Initializer : Type 0 where
    single : Expression → Initializer
    listed : Initializers → Bool → Initializer

  pub data Initializers : Type 0 where
    no_initializers : Initializers
    initializers : Option Name → Initializer → Initializers → Initializers

pub record NamedTree : Type 0 where
  pub declarator : DeclaratorTree
  pub init : Option Initializer

pub record DeclarationTree : Type 0 where
  pub storage : Storage
  pub specs : Specifiers
  pub names : List NamedTree

pub data ForStartTree : Type 0 where
  start_declaration : DeclarationTree → ForStartTree
  start_expression : Option Expression → ForStartTree

mutual
  pub data StatementTree : Type 0 where
    block : Statements → StatementTree
    declaration : DeclarationTree → StatementTree
    expression_statement : Option Expression → StatementTree
    if_statement : Expression → StatementTree → StatementTree
    if_else_statement : Expression → StatementTree → StatementTree → StatementTree
    while_statement : Expression → StatementTree → StatementTree
    do_statement : StatementTree → Expression → StatementTree
    for_statement : ForStartTree → Option Expression → Option Expression → StatementTree → StatementTree
    switch_statement : Expression → StatementTree → StatementTree
    case_label : Expression → StatementTree
    default_label : StatementTree
    named_label : Name → StatementTree
    break_statement : StatementTree
    continue_statement : StatementTree
    return_statement : Option Expression → StatementTree
    goto_statement : Name → StatementTree

  pub data Statements : Type 0 where
    no_statements : Statements
    statements : StatementTree → Statements → Statements

pub record FunctionTree : Type 0 where
  pub storage : Storage
  pub specs : Specifiers
  pub stars : Stars
  pub name : Name
  pub params : Parameters
  pub word : Bool
  pub body : StatementTree

pub data ItemTree : Type 0 where
  function_item : FunctionTree → ItemTree
  declaration_item : DeclarationTree → ItemTree
