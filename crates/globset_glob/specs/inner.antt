pub mod GlobNfa
