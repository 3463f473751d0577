pub mod TreeViews
