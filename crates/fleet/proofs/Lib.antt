mod Courses
mod Lines
mod Numbers
